-- A timeline as text of Z.120: message sequence charts, in the event-oriented form.
use Rattle.std.specs.Prelude.{ℕ, ◌==◌, List, [], ◌∷◌, ◌++◌, Option, None, Some, codes, if◌then◌else◌}
use Rattle.std.specs.Fmt.{decimal}
use Rattle.std.specs.List.{flat_map}
use Rattle.sdl_system.specs.System.{SystemValue}
use Rattle.run_record.specs.Record.{RecordValue}
use Rattle.run_record.specs.declared.record.Report.{Report}
use Rattle.sdl_report.specs.Name.{process_name}
use Rattle.sdl_report.specs.ReportText.{end_text}
use Rattle.view_text.specs.EventText.{event_text, instance_name, word}
use Rattle.view_text.specs.LostText.{lost_text}
use Rattle.view_text.specs.Occurrences.{occurrence_text, occurrences}
use Rattle.view_text.specs.Sending.{SendingValue}
use Rattle.view_text.specs.Walk.{StepValue}
use Rattle.view_timeline.specs.declared.moves.Timeline.{Timeline}

-- the first event of a move begins a line, with whose it is
abbrev pub line_begin : SystemValue → StepValue → List ℕ
line_begin system step =
    if step.place == 0 then 10 ∷ instance_name system step.trace.process step.trace.pid ++ codes ":" else []

abbrev pub step_text : SystemValue → List RecordValue → Timeline → StepValue → List ℕ
step_text system records told step =
    line_begin system step ++ codes " " ++ event_text system records told step.trace step.event step.link ++ codes ";"

-- an instance in the heading
abbrev pub declared_text : SystemValue → RecordValue → List ℕ
declared_text system trace =
    instance_name system trace.process trace.pid ++ codes ": process " ++ word (process_name system trace.process)

abbrev pub next_text : SystemValue → RecordValue → List ℕ
next_text system trace = codes ", " ++ declared_text system trace

-- all instances
abbrev pub instances_text : SystemValue → List RecordValue → List ℕ
instances_text system [] = []
instances_text system (trace ∷ more) =
    10 ∷ codes "inst " ++ declared_text system trace ++ flat_map (next_text system) more ++ codes ";"

-- the name of the chart, and the instances
abbrev pub heading_text : List ℕ → SystemValue → List RecordValue → List ℕ
heading_text name system records = codes "msc " ++ word name ++ codes ";" ++ instances_text system records

-- the heading, and a line for each move and each lost signal of the script in the order of the timeline
abbrev pub chart_text : List ℕ → SystemValue → Timeline → List RecordValue → List SendingValue → List ℕ
chart_text name system told records lost =
    heading_text name system records
    ++ flat_map (occurrence_text (step_text system records told) (lost_text system records told))
    (occurrences records told lost)

-- where the order ends, if an instance can't go on in the timeline
abbrev pub order_text : Option ℕ → List ℕ
order_text None = []
order_text (Some number) = codes "; order not known from #" ++ decimal number ++ codes " on"

-- the end of the chart, with a comment: the end of the run, and where the order ends, if that is before it
abbrev pub last_text : Report → Option ℕ → List ℕ
last_text report stuck =
    10 ∷ codes "endmsc; /* " ++ end_text report ++ order_text stuck ++ codes " */" ++ 10 ∷ []

-- The chart of this name, and its end.
abbrev pub msc_text : List ℕ → SystemValue → Timeline → Option ℕ → List SendingValue → Report → List ℕ
msc_text name system told stuck lost report =
    chart_text name system told report.records.items lost ++ last_text report stuck
