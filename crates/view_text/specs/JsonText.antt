-- A timeline as JSON Lines: an object for each transition or part of one, and one for the end.
use Rattle.std.specs.Prelude.{ℕ, ◌-◌, ◌∷◌, ◌++◌, Bool, true, false, List, [], Option, None, Some, codes, length, slice_get, if◌then◌else◌}
use Rattle.std.specs.List.{flat_map}
use Rattle.std.specs.Fmt.{decimal}
use Rattle.port_model.specs.Take.{name_of}
use Rattle.port_model.specs.declared.got.Got.{Got}
use Rattle.port_model.specs.declared.values.item.SignalId.{SignalId}
use Rattle.port_model.specs.declared.values.pid.Pid as pid
use Rattle.port_model.specs.declared.values.value.Value.{Value}
use Rattle.sdl_system.specs.System.{SystemValue}
use Rattle.sdl_system.specs.declared.route.Target.{Target}
use Rattle.run_record.specs.Entry.{sender_of}
use Rattle.run_record.specs.Event as event
use Rattle.run_record.specs.Event.{values_got}
use Rattle.run_record.specs.Failure.{failure_text}
use Rattle.run_record.specs.Record.{RecordValue}
use Rattle.run_record.specs.declared.record.Report.{Report}
use Rattle.sdl_report.specs.Name.{process_name, signal_name, state_name, variable_name}
use Rattle.sdl_report.specs.ReportText.{line}
use Rattle.view_text.specs.JsonValue.{arrow_json, fate_json, key, object, pid_json, quoted, target_json, truth_json, value_json, values_json}
use Rattle.view_text.specs.Fate.{fate_of}
use Rattle.view_text.specs.Lost.{lost_fate}
use Rattle.view_text.specs.Occurrences.{occurrence_text, occurrences}
use Rattle.view_text.specs.Sending.{SendingValue}
use Rattle.view_text.specs.Walk.{StepValue, goes_on}
use Rattle.view_timeline.specs.Did.{begins}
use Rattle.view_timeline.specs.declared.moves.Link.{Link}
use Rattle.view_timeline.specs.declared.moves.Timeline.{Timeline}

-- ---- how a transition begins

-- `{"at":7,"instance":1,"process":"Initiator"`
abbrev pub when_json : SystemValue → RecordValue → ℕ → List ℕ
when_json system trace at =
    codes "{" ++ quoted (codes "at") ++ codes ":" ++ decimal at ++ key (codes "instance") ++ decimal trace.pid
    ++ key (codes "process") ++ quoted (process_name system trace.process)

abbrev pub by_json : SystemValue → RecordValue → ℕ → List ℕ → List ℕ
by_json system trace at word = when_json system trace at ++ key (codes "by") ++ quoted word

-- a signal or a timer with its values, who sent it, and its arrow
abbrev pub message_json : SystemValue → SignalId → List Value → pid.Pid → Link → List ℕ
message_json system signal values sender link =
    key (codes "signal") ++ quoted (signal_name system signal) ++ key (codes "values") ++ values_json values
    ++ key (codes "from") ++ pid_json sender ++ arrow_json link

abbrev pub got_json : SystemValue → RecordValue → Got → Link → List ℕ
got_json system trace got link =
    message_json system (name_of got) (values_got got) (sender_of trace.pid got) link

abbrev pub taken_json : SystemValue → RecordValue → ℕ → List ℕ → Got → Link → List ℕ
taken_json system trace at word got link = by_json system trace at word ++ got_json system trace got link

-- An object opens. Only an event with which a transition begins does that.
abbrev pub opening : SystemValue → RecordValue → event.Event → Link → List ℕ
opening system trace (event.Start at) link = by_json system trace at (codes "start")
opening system trace (event.Consumed at got) link = taken_json system trace at (codes "input") got link
opening system trace (event.Prior at got) link = taken_json system trace at (codes "priority") got link
opening system trace (event.Discarded at got) link = taken_json system trace at (codes "discard") got link
opening system trace (event.Provided at number) link =
    by_json system trace at (codes "provided") ++ key (codes "number") ++ decimal number
opening system trace (event.FailedAt at why) link =
    by_json system trace at (codes "failed") ++ key (codes "failure") ++ quoted (failure_text why)
opening system trace other link = []

-- ---- what a transition does

-- the number of the instance that a create made, if any
abbrev pub created_json : Option ℕ → List ℕ
created_json (Some number) = decimal number
created_json None = codes "null"

-- whom an output reached, and its arrow, or what became of it
abbrev pub reached_json : Timeline → Target → Link → List ℕ
reached_json told target link = target_json target ++ arrow_json link ++ fate_json (fate_of told target link)

abbrev pub deed_json : SystemValue → Timeline → RecordValue → event.Event → Link → List ℕ
deed_json system told trace (event.Task variable value) link =
    object (codes "task") (quoted (variable_name system trace.process variable) ++ key (codes "value")
    ++ value_json value)
deed_json system told trace (event.Output signal to values target) link =
    object (codes "output") (quoted (signal_name system signal) ++ key (codes "values") ++ values_json values
    ++ key (codes "to") ++ reached_json told target link)
deed_json system told trace (event.Set timer due) link =
    object (codes "set") (quoted (signal_name system timer.name) ++ key (codes "values") ++ values_json timer.values
    ++ key (codes "due") ++ decimal due)
deed_json system told trace (event.Reset timer) link =
    object (codes "reset") (quoted (signal_name system timer.name) ++ key (codes "values") ++ values_json timer.values)
deed_json system told trace (event.Create process pid) link =
    object (codes "create") (quoted (process_name system process) ++ key (codes "instance") ++ created_json pid)
deed_json system told trace (event.NextState state) link =
    object (codes "nextstate") (quoted (state_name system trace.process state))
deed_json system told trace event.Stop link = object (codes "stop") (codes "true")
deed_json system told trace (event.Failed why) link = object (codes "failed") (quoted (failure_text why))
deed_json system told trace other link = []

-- ---- the lines

-- how a record closes is in the last line
abbrev pub is_closing : event.Event → Bool
is_closing (event.Rest state) = true
is_closing (event.Cut state) = true
is_closing _ = false

-- the list of what it does begins
abbrev pub does_json : List ℕ
does_json = key (codes "does") ++ codes "["

-- An object opens with which a transition goes on that began then, once others were told.
abbrev pub going_json : SystemValue → RecordValue → Option ℕ → List ℕ
going_json system trace None = []
going_json system trace (Some at) = by_json system trace at (codes "goes on") ++ does_json

-- A transition is a line, or some of them if it is told in parts: how it begins or that it goes on, and in `does` what
-- it does.
abbrev pub part_json : SystemValue → Timeline → StepValue → List ℕ
part_json system told step =
    if begins step.event then opening system step.trace step.event step.link ++ does_json
    else going_json system step.trace (goes_on step) ++ deed_json system told step.trace step.event step.link

-- what follows an event: the line ends, or there is a comma before what is done next
abbrev pub after_json : Bool → Bool → List ℕ
after_json closes opens = if closes then line (codes "]}") else if opens then [] else codes ","

abbrev pub step_json : SystemValue → Timeline → StepValue → List ℕ
step_json system told step =
    if is_closing step.event then []
    else part_json system told step ++ after_json step.closes (begins step.event)

-- A signal of the script that nobody took: when it's sent, to whom, and what became of it.
abbrev pub lost_json : SystemValue → Timeline → SendingValue → List ℕ
lost_json system told lost =
    line (codes "{" ++ quoted (codes "at") ++ codes ":" ++ decimal lost.at ++ key (codes "lost")
    ++ quoted (signal_name system lost.item.name) ++ key (codes "values") ++ values_json lost.item.values
    ++ key (codes "to") ++ target_json lost.target ++ fate_json (lost_fate told lost) ++ codes "}")

-- how a record closes, by its last event: in a state, or by its end
abbrev pub closing_json : SystemValue → RecordValue → Option event.Event → List ℕ
closing_json system trace (Some (event.Rest state)) =
    key (codes "rest") ++ quoted (state_name system trace.process state)
closing_json system trace (Some (event.Cut (Some state))) =
    key (codes "cut") ++ quoted (state_name system trace.process state)
closing_json system trace (Some (event.Cut None)) = key (codes "cut") ++ quoted (codes "start")
closing_json system trace _ = []

abbrev pub last_event : List event.Event → Option event.Event
last_event events = slice_get events (length events - 1)

-- whose record it is, and its creator
abbrev pub whose_json : SystemValue → RecordValue → List ℕ
whose_json system trace =
    decimal trace.pid ++ key (codes "process") ++ quoted (process_name system trace.process) ++ key (codes "parent")
    ++ pid_json trace.parent

abbrev pub instance_json : SystemValue → RecordValue → List ℕ
instance_json system trace =
    object (codes "instance") (whose_json system trace ++ closing_json system trace (last_event trace.events))

-- each instance with a comma before it
abbrev pub more_instances : SystemValue → List RecordValue → List ℕ
more_instances system records = flat_map (λ (trace : RecordValue). codes "," ++ instance_json system trace) records

abbrev pub instances_json : SystemValue → List RecordValue → List ℕ
instances_json system [] = codes "[]"
instances_json system (trace ∷ more) =
    codes "[" ++ instance_json system trace ++ more_instances system more ++ codes "]"

abbrev pub end_json : SystemValue → Report → List ℕ
end_json system report =
    object (codes "end") (decimal report.end ++ key (codes "whole") ++ truth_json report.whole
    ++ key (codes "instances") ++ instances_json system report.records.items)

-- `{"stuck":3}`, if this instance can't go on in the timeline
abbrev pub stuck_json : Option ℕ → List ℕ
stuck_json None = []
stuck_json (Some number) = line (object (codes "stuck") (decimal number))

-- a line for each transition or part of one in the order of the timeline, and for each signal of the script that is lost, one for the
-- end of the run, and one more if the order ends before that
abbrev pub json_text : SystemValue → Report → Timeline → Option ℕ → List SendingValue → List ℕ
json_text system report told stuck lost =
    flat_map (occurrence_text (step_json system told) (lost_json system told))
    (occurrences report.records.items told lost)
    ++ (line (end_json system report) ++ stuck_json stuck)
