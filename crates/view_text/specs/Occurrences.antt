-- All that a text of a timeline tells: its events, and the signals of the script that nobody took.
use Rattle.std.specs.Prelude.{ℕ, ◌-◌, List, [], ◌∷◌, ◌++◌, map, take, drop}
use Rattle.run_record.specs.Record.{RecordValue}
use Rattle.view_text.specs.Sending.{SendingValue}
use Rattle.view_text.specs.Walk.{StepValue, all_steps}
use Rattle.view_timeline.specs.declared.moves.Timeline.{Timeline}

-- an event, or a signal that is lost
pub data Occurrence : Type 0 where
  Done : StepValue → Occurrence
  Lost : SendingValue → Occurrence

-- how many events are told between two lost signals; before the first of all, if that is told from the beginning
abbrev pub gap : ℕ → List SendingValue → ℕ
gap from [] = 0
gap from (next ∷ more) = next.place - from

-- The steps, and each lost signal in its place among them: the first one after so many steps.
abbrev pub woven : ℕ → List SendingValue → List StepValue → List Occurrence
woven wait [] steps = map Done steps
woven wait (lost ∷ more) steps =
    map Done (take wait steps) ++ Lost lost ∷ woven (gap lost.place more) more (drop wait steps)

-- all of a timeline
abbrev pub occurrences : List RecordValue → Timeline → List SendingValue → List Occurrence
occurrences records told lost = woven (gap 0 lost) lost (all_steps records told)

-- what each of them adds to a text
abbrev pub occurrence_text : (StepValue → List ℕ) → (SendingValue → List ℕ) → Occurrence → List ℕ
occurrence_text step_text lost_text (Done step) = step_text step
occurrence_text step_text lost_text (Lost lost) = lost_text lost
