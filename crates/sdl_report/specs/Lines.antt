-- The lines of a report, in its order, and their text.
use Rattle.std.specs.Prelude.{ℕ, Bool, true, false, List, ◌∷◌, ◌++◌, map, Option, None, Some}
use Rattle.std.specs.List.{flat_map}
use Rattle.run_record.specs.Event.{Event}
use Rattle.run_record.specs.Record.{RecordValue}
use Rattle.run_record.specs.Told.{event_told}
use Rattle.sdl_report.specs.ReportText.{event_line, heading_text, line}
use Rattle.sdl_system.specs.System.{SystemValue}
use Rattle.sdl_report.specs.declared.workers.line.Line as one
use Rattle.sdl_report.specs.declared.workers.line.Line.TheVariants as kind

-- a line of a record: that of an event, or its heading if there is none
pub record LineValue : Type 0 where
  pub trace : RecordValue
  pub event : Option Event

abbrev pub heading : RecordValue → LineValue
heading trace = record { trace = trace; event = None }

abbrev pub line_of : RecordValue → Event → LineValue
line_of trace event = record { trace = trace; event = Some event }

-- the line that an iterator of lines tells
abbrev pub line_told : one.Line → LineValue
line_told (kind.Heading trace) = heading trace.now
line_told (kind.Event trace told) = line_of trace.now (event_told told)

-- ---- which lines there are

-- the lines of these events of a record
abbrev pub event_lines : RecordValue → List Event → List LineValue
event_lines trace events = map (line_of trace) events

abbrev pub record_lines : RecordValue → List LineValue
record_lines trace = heading trace ∷ event_lines trace trace.events

-- the lines of records, one record after the other
abbrev pub all_lines : List RecordValue → List LineValue
all_lines records = flat_map record_lines records

-- the heading if it is left, the lines of what is left of the record's events, and those of the records after it
abbrev pub lines_left : Bool → RecordValue → List Event → List RecordValue → List LineValue
lines_left true trace events rest = heading trace ∷ (event_lines trace events ++ all_lines rest)
lines_left false trace events rest = event_lines trace events ++ all_lines rest

-- ---- their text

abbrev pub text_in : SystemValue → RecordValue → Option Event → List ℕ
text_in system trace None = line (heading_text system trace)
text_in system trace (Some event) = event_line system trace event

abbrev pub line_text : SystemValue → LineValue → List ℕ
line_text system one = text_in system one.trace one.event

abbrev pub lines_text : SystemValue → List LineValue → List ℕ
lines_text system lines = flat_map (line_text system) lines
