-- Whom a serial run creates (Z.101: agent; Z.102: create).
use Rattle.std.specs.Prelude.{◌≡◌, ◌++◌, ℕ, List, [], ◌∷◌, Some, length, map}
use Rattle.std.specs.List.{flat_map, range_with_len}
use Rattle.port_model.specs.declared.values.pid.Pid.TheVariants.{Of}
use Rattle.serial_order.specs.Execution.{Happening, Moved}
use Rattle.serial_order.specs.RunState.{beginning}
use Rattle.serial_order.specs.Laws.{AtEachEnd}
use Rattle.serial_order.specs.Report.{IsSerialReport}
use Rattle.run_record.specs.declared.evaluation.identity.Identity.{Identity}
use Rattle.sdl_interp.specs.Instance.{InstanceValue}
use Rattle.run_record.specs.Event as event
use Rattle.run_record.specs.Event.{Event}
use Rattle.run_record.specs.Record.{RecordValue}
use Rattle.run_record.specs.declared.record.Report.{Report}
use Rattle.run_semantics.specs.Effect.{Deed}
use Rattle.sdl_script.specs.declared.script.ScriptLine.{ScriptLine}
use Rattle.sdl_interp.specs.Machine.{identity_of}
use Rattle.sdl_system.specs.Behaviour.{Behaviour}
use Rattle.sdl_system.specs.System.{SystemValue}

-- whom an event of the instance with this number creates: one, where it is a create that gave a number
abbrev pub created_by : ℕ → Event → List Identity
created_by parent (event.Create process (Some number)) =
    record { process = process; pid = number; parent = Of parent } ∷ []
created_by parent happened = []

-- in order, whom a step creates, and all that happened
abbrev pub created_in_one : Happening → List Identity
created_in_one (Moved who deeds) = flat_map (λ (deed : Deed). created_by who.pid deed.event) deeds
created_in_one happened = []

abbrev pub created_in : List Happening → List Identity
created_in happenings = flat_map created_in_one happenings

abbrev pub identities : List InstanceValue → List Identity
identities instances = map (λ (i : InstanceValue). i.who) instances

-- those with which the system begins and, behind them, those that are created in all that happened
abbrev pub all_created : SystemValue → List Happening → List Identity
all_created system happenings = identities (beginning system []).instances ++ created_in happenings

-- The instances are these and no others, in this order.
abbrev pub EachIsCreatedOnce : Type 0
EachIsCreatedOnce =
    AtEachEnd (λ ps system lines happenings last. identities last.instances ≡ all_created system happenings)

-- So are the instances of the records of a report, and their numbers are those from 1 on: no two are the same.
pub record AreOfCreated (system : SystemValue) (happenings : List Happening) (records : List RecordValue)
    : Type 0 where
  pub created : map identity_of records ≡ all_created system happenings
  pub numbers : map (λ (trace : RecordValue). trace.pid) records ≡ range_with_len 1 (length records)

abbrev pub EachHasOneRecord : Type 0
EachHasOneRecord =
    (ps : List Behaviour) (system : SystemValue) (lines : List ScriptLine) (limit : ℕ) (report : Report)
    → (run : IsSerialReport ps system lines limit report)
    → AreOfCreated system run.happenings report.records.items
