-- The report of a serial run.
use Rattle.std.specs.Prelude.{◌≡◌, ◌+◌, ◌<◌, ℕ, Bool, true, false, List, [], All}
use Rattle.std.specs.List.{AllZip}
use Rattle.serial_order.specs.Execution.{Execution, EndsInTransition, Happening, IsMeant, IsNoFuseBefore, Rests, transitions_of}
use Rattle.serial_order.specs.RunState.{RunState, beginning}
use Rattle.sdl_interp.specs.Instance.{InstanceValue, IsClosed}
use Rattle.run_record.specs.Record.{RecordValue}
use Rattle.run_record.specs.declared.record.Report.{Report}
use Rattle.sdl_script.specs.Script.{end_of}
use Rattle.sdl_script.specs.declared.script.ScriptLine.{ScriptLine}
use Rattle.sdl_system.specs.Behaviour.{Behaviour}
use Rattle.sdl_system.specs.System.{SystemValue}

-- The record of an instance at the end of a run: all that it did, closed with Rest where the run is whole, with Cut
-- where it was cut, and with nothing where the instance has ended. It is a run of the instance's process.
pub record Closes (ps : List Behaviour) (whole : Bool) (i : InstanceValue) (trace : RecordValue) : Type 0 where
  pub p : Behaviour
  pub meant : IsMeant ps i p
  pub closed : IsClosed false whole i trace

-- Whole: fewer transitions than the limit were made, all instances rest, the script is at its end, and no fuse is due
-- by then, which is where the run ends.
pub record EndsWhole (ps : List Behaviour) (lines : List ScriptLine) (limit : ℕ) (happenings : List Happening)
    (last : RunState) (end : ℕ) : Type 0 where
  pub fewer : transitions_of happenings < limit
  pub rest : All (Rests ps) last.instances
  pub heard : last.script ≡ []
  pub no_fuse : IsNoFuseBefore (end_of lines + 1) last.fuses
  pub is_end : end ≡ end_of lines

-- Cut: just as many transitions were made as the limit allows, nothing happened behind the last of them, and the run
-- ends at the clock's time. With a limit of 0 nothing happened at all.
pub record EndsCut (limit : ℕ) (happenings : List Happening) (last : RunState) (end : ℕ) : Type 0 where
  pub as_many : transitions_of happenings ≡ limit
  pub in_transition : EndsInTransition happenings
  pub is_end : end ≡ last.clock

abbrev pub Ends : Bool → List Behaviour → List ScriptLine → ℕ → List Happening → RunState → ℕ → Type 0
Ends true ps lines limit happenings last end = EndsWhole ps lines limit happenings last end
Ends false ps lines limit happenings last end = EndsCut limit happenings last end

-- The report of a serial run: an execution from the first instances, before their start at time 0, to a state whose
-- instances are those of the records, one for each number, in order.
pub record IsSerialReport (ps : List Behaviour) (system : SystemValue) (lines : List ScriptLine) (limit : ℕ)
    (report : Report) : Type 0 where
  pub happenings : List Happening
  pub last : RunState
  pub execution : Execution ps (end_of lines) (beginning system lines) happenings last
  pub records : AllZip (Closes ps report.whole) last.instances report.records.items
  pub ends : Ends report.whole ps lines limit happenings last report.end
