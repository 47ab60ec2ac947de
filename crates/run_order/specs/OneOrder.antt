-- When a report is told in one order.
use Rattle.std.specs.Prelude.{◌≡◌, ◌+◌, ℕ, Bool, true, false, List, [], All, map}
use Rattle.std.specs.List.{AllZip}
use Rattle.run_order.specs.Interleaving.{EndsInTransition, Happening, Interleaving, IsDoneAndRests, tellers_of}
use Rattle.run_order.specs.declared.chronicle.Ending.{Ending}
use Rattle.run_order.specs.declared.chronicle.Ending.TheVariants as ending
use Rattle.run_order.specs.declared.member.Member.{Member}
use Rattle.run_order.specs.OrderState.{OrderState, beginning}
use Rattle.run_record.specs.declared.record.Report.{Report}
use Rattle.sdl_interp.specs.Instance.{InstanceValue}
use Rattle.sdl_script.specs.Script.{end_of}
use Rattle.sdl_script.specs.declared.script.ScriptLine.{ScriptLine}
use Rattle.sdl_system.specs.Behaviour.{Behaviour}
use Rattle.sdl_system.specs.System.{SystemValue}
use Rattle.serial_order.specs.Execution.{IsNoFuseBefore}
use Rattle.serial_order.specs.Report.{Closes}

-- all instances of the run
abbrev pub instances_of : OrderState → List InstanceValue
instances_of g = map (λ (m : Member). m.instance) g.members

-- whole: all rest, the script is at its end, and no fuse is due by then, which is where the run ends
pub record EndsWhole (ps : List Behaviour) (lines : List ScriptLine) (last : OrderState) (end : ℕ) : Type 0 where
  pub rest : All (IsDoneAndRests ps) last.members
  pub heard : last.script ≡ []
  pub no_fuse : IsNoFuseBefore (end_of lines + 1) last.fuses
  pub is_end : end ≡ end_of lines

-- cut: each step is told to its end, the environment does nothing behind the last transition, and the run ends at the
-- clock's time
pub record EndsCut (happenings : List Happening) (last : OrderState) (end : ℕ) : Type 0 where
  pub all_done : All (λ (m : Member). m.pending ≡ []) last.members
  pub in_transition : EndsInTransition happenings
  pub is_end : end ≡ last.clock

abbrev pub Ends : Bool → List Behaviour → List ScriptLine → List Happening → OrderState → ℕ → Type 0
Ends true ps lines happenings last end = EndsWhole ps lines last end
Ends false ps lines happenings last end = EndsCut happenings last end

-- The records of the report, one for each number, in order, are those of a run of the system on the script in one
-- order, in which the events are told of these instances, one after the other.
pub record IsOneOrder (ps : List Behaviour) (system : SystemValue) (lines : List ScriptLine) (report : Report)
    (tellers : List ℕ) : Type 0 where
  pub happenings : List Happening
  pub last : OrderState
  pub interleaving : Interleaving ps (beginning system lines) happenings last
  pub records : AllZip (Closes ps report.whole) (instances_of last) report.records.items
  pub ends : Ends report.whole ps lines happenings last report.end
  pub told : tellers ≡ tellers_of happenings

-- A run of the system on the script in one order begins so: its events are told of these instances, one after the
-- other.
pub record IsBegunOrder (ps : List Behaviour) (system : SystemValue) (lines : List ScriptLine) (tellers : List ℕ)
    : Type 0 where
  pub happenings : List Happening
  pub last : OrderState
  pub interleaving : Interleaving ps (beginning system lines) happenings last
  pub told : tellers ≡ tellers_of happenings

-- the whole report is told, or a run as far as it goes
abbrev pub EndsSo : List Behaviour → SystemValue → List ScriptLine → Report → Ending → Type 0
EndsSo ps system lines report (ending.Whole tellers) = IsOneOrder ps system lines report tellers.items
EndsSo ps system lines report (ending.Part tellers) = IsBegunOrder ps system lines tellers.items
