-- Events as text of Z.120.
use Rattle.std.specs.Prelude.{ℕ, ◌+◌, ◌==◌, ◌||◌, Bool, false, List, [], ◌∷◌, ◌++◌, Option, Some, None, codes, if◌then◌else◌}
use Rattle.std.specs.Option.{option_map_or}
use Rattle.std.specs.Fmt.{decimal}
use Rattle.port_model.specs.declared.got.Got as got
use Rattle.port_model.specs.declared.got.Got.TheVariants as came
use Rattle.port_model.specs.Text.{value_text, values_text}
use Rattle.port_model.specs.declared.values.item.SignalId.{SignalId}
use Rattle.port_model.specs.declared.values.pid.Pid.{Pid}
use Rattle.port_model.specs.declared.values.pid.Pid.TheVariants as who
use Rattle.port_model.specs.declared.values.value.Value.{Value}
use Rattle.sdl_system.specs.System.{SystemValue}
use Rattle.sdl_system.specs.declared.id.ProcessId.{ProcessId}
use Rattle.sdl_system.specs.declared.route.Target.{Target}
use Rattle.sdl_system.specs.declared.route.Target.TheVariants as reached
use Rattle.run_record.specs.Event as event
use Rattle.run_record.specs.Failure.{failure_text}
use Rattle.run_record.specs.declared.failure.Failure.{Failure}
use Rattle.run_record.specs.Record.{RecordValue}
use Rattle.sdl_report.specs.Name.{signal_name, process_name, state_name, variable_name}
use Rattle.sdl_report.specs.Number.{record_of}
use Rattle.view_text.specs.Keyword.{is_keyword}
use Rattle.view_text.specs.Fate.{fate_of, fate_word}
use Rattle.view_text.specs.declared.fate.Fate.{Fate}
use Rattle.view_timeline.specs.declared.moves.Link.{Link}
use Rattle.view_timeline.specs.declared.moves.Link.TheVariants as is
use Rattle.view_timeline.specs.declared.moves.Timeline.{Timeline}

-- ---- names

-- whether a name ends with `_`
abbrev pub ends_with_mark : List ℕ → Bool
ends_with_mark [] = false
ends_with_mark (byte ∷ []) = byte == 95
ends_with_mark (byte ∷ next ∷ rest) = ends_with_mark (next ∷ rest)

-- a keyword of Z.120, and what may be one with a `_` after it
abbrev pub gets_mark : List ℕ → Bool
gets_mark name = is_keyword name || ends_with_mark name

-- a name as a word of Z.120: such a one gets a `_` after it
unfoldable pub word : List ℕ → List ℕ
word name = if gets_mark name then name ++ codes "_" else name

-- `Initiator_1`: an instance of a process
abbrev pub instance_name : SystemValue → ProcessId → ℕ → List ℕ
instance_name system process number = process_name system process ++ codes "_" ++ decimal number

-- the instance of this number, by its record if it has one
abbrev pub party_name : SystemValue → List RecordValue → ℕ → List ℕ
party_name system records number =
    option_map_or (λ (trace : RecordValue). instance_name system trace.process number) (record_of number records)
    (codes "instance_" ++ decimal number)

-- who sent a signal
abbrev pub sender_name : SystemValue → List RecordValue → Pid → List ℕ
sender_name system records who.Null = codes "found"
sender_name system records who.Env = codes "env"
sender_name system records (who.Of number) = party_name system records number

-- the name of a message at both ends of an arrow, since signals of one name and values repeat
abbrev pub message_name : Link → List ℕ
message_name (is.Arrow arrow) = codes ",m" ++ decimal (arrow.0 + 1)
message_name is.Plain = []
message_name is.Gone = []
message_name is.Waits = []

-- ---- events

abbrev pub comment : List ℕ → List ℕ
comment text = codes " comment '" ++ text ++ codes "'"

-- when a transition begins
abbrev pub at_text : ℕ → List ℕ → List ℕ
at_text at remark = comment (codes "at " ++ decimal at ++ remark)

-- a signal with its values, or a timer with its own
abbrev pub message_text : SystemValue → SignalId → Link → List Value → List ℕ
message_text system signal link values = word (signal_name system signal) ++ message_name link ++ values_text values

-- what was taken from the port
abbrev pub taken_text : SystemValue → List RecordValue → got.Got → Link → List ℕ
taken_text system records (came.Signal item) link =
    codes "in " ++ message_text system item.name link item.values ++ codes " from "
    ++ sender_name system records item.sender
taken_text system records (came.Timer key) link =
    codes "timeout " ++ message_text system key.name is.Plain key.values

-- an instance to which a signal was sent, and what became of that, if nobody took it
abbrev pub reached_text : List ℕ → Option Fate → List ℕ
reached_text receiver None = receiver
reached_text receiver (Some fate) = codes "lost " ++ receiver ++ comment (fate_word fate)

-- whom an output reached
abbrev pub receiver_text : SystemValue → List RecordValue → Timeline → Target → Link → List ℕ
receiver_text system records told (reached.Instance number) link =
    reached_text (party_name system records number) (fate_of told (reached.Instance number) link)
receiver_text system records told reached.Env link = codes "env"
receiver_text system records told reached.Null link = codes "lost"
receiver_text system records told reached.Nobody link = codes "lost"

-- a create that made nothing
abbrev pub refused_text : List ℕ → List ℕ
refused_text process = codes "action 'create " ++ process ++ codes " null'"

-- the instance that a create made, if any
abbrev pub created_text : SystemValue → ProcessId → Option ℕ → List ℕ
created_text system process (Some number) = codes "create " ++ instance_name system process number
created_text system process None = refused_text (process_name system process)

-- a start of an instance of a process
abbrev pub start_text : List ℕ → ℕ → List ℕ
start_text process at =
    codes "instance process " ++ word process ++ codes "; condition start" ++ at_text at []

abbrev pub provided_text : ℕ → ℕ → List ℕ
provided_text at number = codes "action 'provided " ++ decimal number ++ codes "'" ++ at_text at []

-- why an instance fails
abbrev pub failed_text : Failure → List ℕ
failed_text why = codes "action 'failed " ++ failure_text why ++ codes "'"

abbrev pub failed_at_text : ℕ → Failure → List ℕ
failed_at_text at why = failed_text why ++ at_text at [] ++ codes "; stop"

abbrev pub output_text : SystemValue → List RecordValue → Timeline → SignalId → List Value → Target → Link → List ℕ
output_text system records told signal values target link =
    codes "out " ++ message_text system signal link values ++ codes " to "
    ++ receiver_text system records told target link

-- when a timer is due
abbrev pub due_text : ℕ → List ℕ
due_text due = comment (codes "due " ++ decimal due)

-- a timer that is set
abbrev pub set_text : SystemValue → SignalId → List Value → ℕ → List ℕ
set_text system timer values due =
    codes "starttimer " ++ message_text system timer is.Plain values ++ due_text due

abbrev pub reset_text : SystemValue → SignalId → List Value → List ℕ
reset_text system timer values = codes "stoptimer " ++ message_text system timer is.Plain values

abbrev pub entered_text : List ℕ → List ℕ
entered_text state = codes "condition " ++ word state

-- how a record closes, and in which state
abbrev pub closed_text : List ℕ → List ℕ → List ℕ
closed_text how state = codes "endinstance" ++ comment (how ++ state)

-- an event of a record, without the `;` after it
abbrev pub event_text : SystemValue → List RecordValue → Timeline → RecordValue → event.Event → Link → List ℕ
event_text system records told trace (event.Start at) link = start_text (process_name system trace.process) at
event_text system records told trace (event.Consumed at got) link = taken_text system records got link ++ at_text at []
event_text system records told trace (event.Prior at got) link =
    taken_text system records got link ++ at_text at (codes ", priority")
event_text system records told trace (event.Discarded at got) link =
    taken_text system records got link ++ at_text at (codes ", discarded")
event_text system records told trace (event.Provided at number) link = provided_text at number
event_text system records told trace (event.FailedAt at why) link = failed_at_text at why
event_text system records told trace (event.Task variable value) link =
    codes "action '" ++ variable_name system trace.process variable ++ codes " := " ++ value_text value ++ codes "'"
event_text system records told trace (event.Output signal to values target) link =
    output_text system records told signal values target link
event_text system records told trace (event.Set key due) link = set_text system key.name key.values due
event_text system records told trace (event.Reset key) link = reset_text system key.name key.values
event_text system records told trace (event.Create process pid) link = created_text system process pid
event_text system records told trace (event.NextState state) link =
    entered_text (state_name system trace.process state)
event_text system records told trace event.Stop link = codes "stop"
event_text system records told trace (event.Failed why) link =
    codes "action 'failed " ++ failure_text why ++ codes "'; stop"
event_text system records told trace (event.Rest state) link =
    closed_text (codes "rest ") (state_name system trace.process state)
event_text system records told trace (event.Cut (Some state)) link =
    closed_text (codes "cut ") (state_name system trace.process state)
event_text system records told trace (event.Cut None) link = codes "endinstance" ++ comment (codes "cut start")
