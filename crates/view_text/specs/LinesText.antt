-- A timeline as lines of text.
use Rattle.std.specs.Prelude.{ℕ, ◌==◌, Bool, true, false, List, [], ◌++◌, Option, None, Some, codes, count_by, sum_by, if◌then◌else◌}
use Rattle.std.specs.List.{flat_map}
use Rattle.std.specs.Fmt.{decimal}
use Rattle.port_model.specs.declared.got.Got as got
use Rattle.port_model.specs.declared.got.Got.TheVariants as came
use Rattle.port_model.specs.declared.values.pid.Pid as pid
use Rattle.port_model.specs.declared.values.pid.Pid.TheVariants as who
use Rattle.sdl_system.specs.System.{SystemValue}
use Rattle.run_record.specs.Event as event
use Rattle.run_record.specs.Failure.{failure_text}
use Rattle.run_record.specs.Record.{RecordValue}
use Rattle.run_record.specs.declared.record.Report.{Report}
use Rattle.sdl_report.specs.Name.{process_name}
use Rattle.sdl_report.specs.ReportText.{end_text, event_text, line, signal_text, stimulus_text, target_text}
use Rattle.view_text.specs.Fate.{fate_of, fate_word}
use Rattle.view_text.specs.Lost.{lost_fate}
use Rattle.view_text.specs.Occurrences.{occurrence_text, occurrences}
use Rattle.view_text.specs.Sending.{SendingValue}
use Rattle.view_text.specs.Walk.{StepValue, goes_on}
use Rattle.view_text.specs.declared.fate.Fate.{Fate}
use Rattle.view_timeline.specs.declared.moves.Link.{Link}
use Rattle.view_timeline.specs.declared.moves.Timeline.{Timeline}

-- `#7 Initiator`
abbrev pub instance_text : SystemValue → RecordValue → List ℕ
instance_text system trace = codes "#" ++ decimal trace.pid ++ codes " " ++ process_name system trace.process

-- the time of a transition, and whose it is
abbrev pub when_text : SystemValue → RecordValue → ℕ → List ℕ
when_text system trace at = decimal at ++ codes " " ++ instance_text system trace

-- what became of what was sent, if nobody took it
abbrev pub fate_text : Option Fate → List ℕ
fate_text None = []
fate_text (Some fate) = codes " " ++ fate_word fate

-- The line of an event: that of the report. If a move opens, it says whose it is. An output says what became of it.
abbrev pub linked_text : SystemValue → Timeline → RecordValue → event.Event → Link → List ℕ
linked_text system told trace (event.Start at) link = when_text system trace at ++ codes " start"
linked_text system told trace (event.Consumed at got) link =
    when_text system trace at ++ codes " input " ++ stimulus_text system trace got
linked_text system told trace (event.Prior at got) link =
    when_text system trace at ++ codes " priority " ++ stimulus_text system trace got
linked_text system told trace (event.Discarded at got) link =
    when_text system trace at ++ codes " discard " ++ stimulus_text system trace got
linked_text system told trace (event.Provided at number) link =
    when_text system trace at ++ codes " provided " ++ decimal number
linked_text system told trace (event.FailedAt at why) link =
    when_text system trace at ++ codes " failed " ++ failure_text why
linked_text system told trace (event.Rest state) link =
    instance_text system trace ++ codes " " ++ event_text system trace (event.Rest state)
linked_text system told trace (event.Cut state) link =
    instance_text system trace ++ codes " " ++ event_text system trace (event.Cut state)
linked_text system told trace (event.Output signal to values target) link =
    event_text system trace (event.Output signal to values target) ++ fate_text (fate_of told target link)
linked_text system told trace other link = event_text system trace other

-- the line with which a transition goes on, once others were told: when it began, and whose it is
abbrev pub going_line : SystemValue → RecordValue → Option ℕ → List ℕ
going_line system trace None = []
going_line system trace (Some at) = line (when_text system trace at ++ codes " goes on")

-- the line of an event; before that of the first one of a part with which a transition goes on, who goes on
abbrev pub step_line : SystemValue → Timeline → StepValue → List ℕ
step_line system told step =
    going_line system step.trace (goes_on step) ++ line (linked_text system told step.trace step.event step.link)

-- The line of a signal of the script that nobody took: when it's sent, to whom, and what became of it.
abbrev pub lost_line : SystemValue → Timeline → SendingValue → List ℕ
lost_line system told lost =
    line (decimal lost.at ++ codes " env output " ++ signal_text system lost.item.name lost.item.values
    ++ codes " to " ++ target_text lost.target ++ fate_text (lost_fate told lost))

-- ---- what of the script was heard

abbrev pub is_env_pid : pid.Pid → Bool
is_env_pid who.Null = false
is_env_pid who.Env = true
is_env_pid (who.Of number) = false

abbrev pub is_env : got.Got → Bool
is_env (came.Signal item) = is_env_pid item.sender
is_env (came.Timer key) = false

-- whether the event takes a signal of the environment
abbrev pub is_heard : event.Event → Bool
is_heard (event.Consumed at got) = is_env got
is_heard (event.Prior at got) = is_env got
is_heard (event.Discarded at got) = is_env got
is_heard _ = false

-- how many signals of the environment an instance took, and all of them
abbrev pub heard_in : RecordValue → ℕ
heard_in trace = count_by is_heard trace.events

abbrev pub heard : List RecordValue → ℕ
heard records = sum_by heard_in records

-- `script: 3 signals, 1 taken`, if not all were
abbrev pub script_text : ℕ → ℕ → List ℕ
script_text sent taken =
    if sent == taken then []
    else line (codes "script: " ++ decimal sent ++ codes " signals, " ++ decimal taken ++ codes " taken")

-- ---- the text

-- `order: not known from #3 on`, if this instance can't go on in the timeline
abbrev pub order_text : Option ℕ → List ℕ
order_text None = []
order_text (Some number) = line (codes "order: not known from #" ++ decimal number ++ codes " on")

-- the end of the run, what of the script was heard, and where the order ends, if that is before the end of the run
abbrev pub closing_text : Report → Option ℕ → ℕ → List ℕ
closing_text report stuck sent =
    line (end_text report) ++ (script_text sent (heard report.records.items) ++ order_text stuck)

-- A line for each event in the order of the timeline, and for each signal of the script that is lost, then how it
-- closes.
abbrev pub lines_text : SystemValue → Report → Timeline → Option ℕ → ℕ → List SendingValue → List ℕ
lines_text system report told stuck sent lost =
    flat_map (occurrence_text (step_line system told) (lost_line system told))
    (occurrences report.records.items told lost) ++ closing_text report stuck sent
