-- The text of a report, line by line.
use Rattle.std.specs.Prelude.{ℕ, List, [], ◌∷◌, ◌++◌, Option, Some, None, codes, drop, if◌then◌else◌}
use Rattle.std.specs.List.{flat_map}
use Rattle.std.specs.Fmt.{decimal}
use Rattle.port_model.specs.Take.{name_of}
use Rattle.port_model.specs.Text.{pid_text, value_text, values_text}
use Rattle.port_model.specs.declared.got.Got as got
use Rattle.port_model.specs.declared.values.item.SignalId.{SignalId}
use Rattle.port_model.specs.declared.values.value.Value.{Value}
use Rattle.sdl_system.specs.System.{SystemValue}
use Rattle.sdl_system.specs.declared.route.Target as target
use Rattle.sdl_system.specs.declared.route.Target.TheVariants as reached
use Rattle.run_record.specs.Event as event
use Rattle.run_record.specs.Entry.{sender_of}
use Rattle.run_record.specs.Event.{values_got}
use Rattle.run_record.specs.Failure.{failure_text}
use Rattle.sdl_report.specs.Name.{signal_name, process_name, state_name, variable_name}
use Rattle.run_record.specs.Record.{RecordValue}
use Rattle.run_record.specs.declared.record.Report.{Report}

-- whom an output reached
abbrev pub target_text : target.Target → List ℕ
target_text (reached.Instance number) = codes "#" ++ decimal number
target_text reached.Env = codes "env"
target_text reached.Null = codes "null"
target_text reached.Nobody = codes "nobody"

-- a signal or a timer with its values
abbrev pub signal_text : SystemValue → SignalId → List Value → List ℕ
signal_text system signal values = signal_name system signal ++ values_text values

-- what was got, and who sent it
abbrev pub stimulus_text : SystemValue → RecordValue → got.Got → List ℕ
stimulus_text system trace got =
    signal_text system (name_of got) (values_got got) ++ codes " from " ++ pid_text (sender_of trace.pid got)

-- the instance that a create made, if any
abbrev pub created_text : Option ℕ → List ℕ
created_text (Some number) = codes "#" ++ decimal number
created_text None = codes "null"

-- the line of an event of that record, without its end
abbrev pub event_text : SystemValue → RecordValue → event.Event → List ℕ
event_text system trace (event.Start at) = decimal at ++ codes " start"
event_text system trace (event.Consumed at got) = decimal at ++ codes " input " ++ stimulus_text system trace got
event_text system trace (event.Prior at got) = decimal at ++ codes " priority " ++ stimulus_text system trace got
event_text system trace (event.Discarded at got) = decimal at ++ codes " discard " ++ stimulus_text system trace got
event_text system trace (event.Provided at number) = decimal at ++ codes " provided " ++ decimal number
event_text system trace (event.FailedAt at why) = decimal at ++ codes " failed " ++ failure_text why
event_text system trace (event.Task variable value) =
    codes "  task " ++ variable_name system trace.process variable ++ codes " := " ++ value_text value
event_text system trace (event.Output signal to values target) =
    codes "  output " ++ signal_text system signal values ++ codes " to " ++ target_text target
event_text system trace (event.Set key due) =
    codes "  set " ++ signal_text system key.name key.values ++ codes " " ++ decimal due
event_text system trace (event.Reset key) = codes "  reset " ++ signal_text system key.name key.values
event_text system trace (event.Create process pid) =
    codes "  create " ++ process_name system process ++ codes " " ++ created_text pid
event_text system trace (event.NextState state) = codes "  nextstate " ++ state_name system trace.process state
event_text system trace event.Stop = codes "  stop"
event_text system trace (event.Failed why) = codes "  failed " ++ failure_text why
event_text system trace (event.Rest state) = codes "rest " ++ state_name system trace.process state
event_text system trace (event.Cut (Some state)) = codes "cut " ++ state_name system trace.process state
event_text system trace (event.Cut None) = codes "cut start"

abbrev pub heading_text : SystemValue → RecordValue → List ℕ
heading_text system trace =
    codes "instance #" ++ decimal trace.pid ++ codes " " ++ process_name system trace.process
    ++ codes " parent " ++ pid_text trace.parent

-- a text with the end of its line
abbrev pub line : List ℕ → List ℕ
line text = text ++ 10 ∷ []

abbrev pub event_line : SystemValue → RecordValue → event.Event → List ℕ
event_line system trace event = line (event_text system trace event)

abbrev pub record_text : SystemValue → RecordValue → List ℕ
record_text system trace = line (heading_text system trace) ++ flat_map (event_line system trace) trace.events

abbrev pub end_text : Report → List ℕ
end_text report = codes "end " ++ decimal report.end ++ (if report.whole then codes " whole" else codes " cut")

-- the lines of the records, then the end
abbrev pub report_text : SystemValue → Report → List ℕ
report_text system report = flat_map (record_text system) report.records.items ++ line (end_text report)

-- the same of the records behind so many
abbrev pub rest_text : SystemValue → Report → ℕ → List ℕ
rest_text system report written =
    flat_map (record_text system) (drop written report.records.items) ++ line (end_text report)
