-- A text of a timeline, which goes out event by event.
use Rattle.std.proofs.Common.{arith, length-append}
use Rattle.std.specs.Prelude.{ℕ, ◌<◌, List, [], ◌∷◌, ◌++◌, length, Option}
use Rattle.std.specs.List.{flat_map}
use Rattle.run_record.specs.Record.{RecordValue}
use Rattle.sdl_report.specs.Gathered.{Breaks}
use Rattle.sdl_report.specs.ReportText.{line}
use Rattle.view_text.specs.Occurrences.{occurrence_text, occurrences}
use Rattle.view_text.specs.Sending.{SendingValue}
use Rattle.view_text.specs.Walk.{StepValue}
use Rattle.view_timeline.specs.declared.moves.Timeline.{Timeline}

-- the heading, what each event and each lost signal adds in the order of the timeline, and the end
abbrev pub whole_text : List ℕ → (StepValue → List ℕ) → (SendingValue → List ℕ) → List ℕ → List RecordValue
    → Timeline → List SendingValue → List ℕ
whole_text heading step_text lost_text closing records told lost =
    (heading ++ flat_map (occurrence_text step_text lost_text) (occurrences records told lost)) ++ closing

-- The bytes were to come after the gathered text, and more after them. Of all that a beginning has gone out, and not
-- all.
abbrev pub BreaksBefore : Option (List ℕ) → List ℕ → Option (List ℕ) → List ℕ → Type 0
BreaksBefore held gathered held' bytes =
    (after : List ℕ) → 0 < length after → Breaks held gathered held' (bytes ++ after)

-- a line has bytes
pub line-some : (text rest : List ℕ) → 0 < length (line text ++ rest)
line-some text rest = omega (arith, length-append (line text) rest, length-append text (10 ∷ []))
