-- Marks in the report of a marked run.
use Rattle.std.specs.Prelude.{◌≡◌, ◌==◌, ℕ, ℤ, pos, Bool, not, List, [], Option, None, Some, is_some, length, map, slice_get, if◌then◌else◌}
use Rattle.std.specs.List.{filter, sum_by}
use Rattle.std.specs.Option.{option_map, option_map_or}
use Rattle.port_model.specs.declared.values.pid.Pid.{Pid}
use Rattle.port_model.specs.declared.values.value.Value.TheVariants.{Int}
use Rattle.sdl_system.specs.System.{SystemValue}
use Rattle.sdl_system.specs.declared.id.ProcessId.{ProcessId}
use Rattle.sdl_system.specs.declared.id.VariableId.{VariableId}
use Rattle.run_record.specs.Event as event
use Rattle.run_record.specs.Record.{RecordValue}
use Rattle.run_record.specs.declared.record.Report.{Report}

-- the variable of the marks of a process: the one after all that the system without marks has there
abbrev pub variable_in : SystemValue → ProcessId → Option VariableId
variable_in system process =
    option_map (λ one. record { 0 = length one.variables.items }) (slice_get system.processes process.0)

-- the number of the part of which an event is the mark: a task on that variable
abbrev pub mark_of : VariableId → event.Event → Option ℤ
mark_of variable (event.Task to (Int part)) = if to.0 == variable.0 then Some part else None
mark_of variable other = None

abbrev pub is_no_mark : VariableId → event.Event → Bool
is_no_mark variable one = not (is_some (mark_of variable one))

-- ---- a marked run

-- what an instance is and did
abbrev pub deeds : RecordValue → ProcessId × ℕ × Pid × List event.Event
deeds trace = (trace.process, trace.pid, trace.parent, trace.events)

abbrev pub without_marks : Option VariableId → List event.Event → List event.Event
without_marks None events = events
without_marks (Some variable) events = filter (is_no_mark variable) events

-- the same without its marks
abbrev pub unmarked : SystemValue → RecordValue → ProcessId × ℕ × Pid × List event.Event
unmarked system trace =
    (trace.process, trace.pid, trace.parent, without_marks (variable_in system trace.process) trace.events)

-- the second report is the first one with marks
pub record IsMarkedRun (system : SystemValue) (plain marked : Report) : Type 0 where
  pub records : map deeds plain.records.items ≡ map (unmarked system) marked.records.items
  pub end : plain.end ≡ marked.end
  pub whole : plain.whole ≡ marked.whole

-- ---- how often a part is passed

-- one if it is the mark of this part
abbrev pub once : Option ℤ → ℕ → ℕ
once (Some (pos number)) part = if number == part then 1 else 0
once other part = 0

abbrev pub marks_of : VariableId → List event.Event → ℕ → ℕ
marks_of variable events part = sum_by (λ one. once (mark_of variable one) part) events

-- how often an instance passes a part: as often as it has the mark of the part
abbrev pub passes : SystemValue → RecordValue → ℕ → ℕ
passes system trace part =
    option_map_or (λ variable. marks_of variable trace.events part) (variable_in system trace.process) 0

-- how often all of them do
abbrev pub passes_in : SystemValue → List RecordValue → ℕ → ℕ
passes_in system records part = sum_by (λ trace. passes system trace part) records
