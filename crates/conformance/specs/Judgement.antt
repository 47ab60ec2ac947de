-- What is found of a case, said of what the program may answer.
use Rattle.std.specs.Prelude.{◌≡◌, ◌≢◌, ◌≤◌, ◌⊎◌, ℕ, List, [], Option, None, Some, Result, Ok, Err, MatchResult, length}
use Rattle.sdl_engine.specs.Answer.{Faulted, Written}
use Rattle.sdl_engine.specs.declared.options.Command.TheVariants as command
use Rattle.sdl_engine.specs.declared.options.Options.{Options}
use Rattle.sdl_engine.specs.declared.options.Outcome.{Outcome}
use Rattle.sdl_engine.specs.declared.options.Outcome.TheVariants as outcome
use Rattle.sdl_engine.specs.declared.options.TextFault.{TextFault}
use Rattle.sdl_engine.specs.declared.run.Run.{Run}
use Rattle.sdl_command_line.specs.Drawn.{IsDrawn}
use Rattle.sdl_command_line.specs.declared.views.form.Form.{Form}
use Rattle.conformance.specs.declared.case.Answer.{Answer}
use Rattle.conformance.specs.declared.case.Asked.TheVariants as asked
use Rattle.conformance.specs.declared.case.Case.{Case}
use Rattle.conformance.specs.declared.judge.Difference.{Difference}
use Rattle.conformance.specs.declared.judge.Difference.TheVariants as difference
use Rattle.conformance.specs.declared.judge.Verdict.{Verdict}
use Rattle.conformance.specs.declared.judge.Verdict.TheVariants as verdict

-- the exit status that goes with what came of a text
abbrev pub status_of : Result Outcome TextFault → ℕ
status_of (Ok outcome.Whole) = 0
status_of (Ok outcome.Cut) = 1
status_of (Ok outcome.TextRefused) = 2
status_of (Ok outcome.RunRefused) = 3
status_of (Err fault) = 3

-- The engine may answer this to the input: the output is all that its theorem says was written, and the status goes with
-- what came of it.
pub record IsAnswer (input : List ℕ) (options : Options) (output : List ℕ) (status : ℕ) : Type 0 where
  pub came : Result Outcome TextFault
  pub ends : status ≡ status_of came
  pub writes : MatchResult came (λ how. Written (Some input) None options how (Some []) (Some output)) (λ fault. Faulted fault (Some input) None options (Some []) (Some output))

-- a chart in this form of the run that was kept, as far as its order is known; of a text that is refused none was, and
-- nothing is drawn
abbrev pub IsChartOf : Form → Option Run → List ℕ → Type 0
IsChartOf form (Some run) chart = (stuck : Option ℕ) × IsDrawn form run stuck (Some []) (Some chart)
IsChartOf form None chart = chart ≡ []

-- A chart in this form may be drawn of the input: the status goes with what the engine answered, and the chart is that
-- of a run that was kept then.
pub record IsChart (input : List ℕ) (options : Options) (form : Form) (chart : List ℕ) (status : ℕ) : Type 0 where
  pub output : List ℕ
  pub told : IsAnswer input options output status
  pub kept : Option Run
  pub drawn : IsChartOf form kept chart

-- the same output and the same status
pub record IsSame (want told : Answer) : Type 0 where
  pub output : want.output.items ≡ told.output.items
  pub status : want.status ≡ told.status

-- the answer of a check that accepts its text, and is no longer than a specification may be
pub record IsSpecification (options : Options) (answer : Answer) : Type 0 where
  pub checked : options.command ≡ command.Check
  pub accepted : answer.status ≡ 0
  pub short : length answer.output.items ≤ 1048576

-- the output is what a check of itself answers
abbrev pub IsCanonical : Options → Answer → Type 0
IsCanonical options answer = IsSpecification options answer → (status : ℕ) × IsAnswer answer.output.items options answer.output.items status

-- a check of the output answers something else
abbrev pub IsUnstable : Options → Answer → Type 0
IsUnstable options answer = (again : Answer) × IsAnswer answer.output.items options again.output.items again.status × (answer.output.items ≢ again.output.items)

-- this was answered to the command of a case
pub record Answers (case : Case) (answer : Answer) : Type 0 where
  pub options : Options
  pub command : case.asked ≡ asked.Command options
  pub told : IsAnswer case.input.items options answer.output.items answer.status
  pub again : IsCanonical options answer

-- this was drawn of the run of a case
pub record Draws (case : Case) (chart : Answer) : Type 0 where
  pub options : Options
  pub form : Form
  pub request : case.asked ≡ asked.Chart options form
  pub drawn : IsChart case.input.items options form chart.output.items chart.status

-- this came of what is asked: of a command, or of a chart
abbrev pub IsAnswered : Case → Answer → Type 0
IsAnswered case answer = Answers case answer ⊎ Draws case answer

-- what came of what is asked is not the wanted answer
pub record AnswersOtherwise (case : Case) (answer : Answer) : Type 0 where
  pub answers : IsAnswered case answer
  pub other : IsSame case.wanted answer → ⊥

-- what was answered has another canonical text than itself
pub record AnswersUnstably (case : Case) (answer : Answer) : Type 0 where
  pub options : Options
  pub command : case.asked ≡ asked.Command options
  pub told : IsAnswer case.input.items options answer.output.items answer.status
  pub again : IsUnstable options answer

-- whether it is a difference between an answer and the wanted one
abbrev pub IsOfAnswer : Difference → Type 0
IsOfAnswer difference.Arguments = ⊥
IsOfAnswer (difference.Again pair) = ⊥
IsOfAnswer (difference.Explained pair) = ⊥
IsOfAnswer other = Unit {0}

-- in what a case differs
abbrev pub DiffersBy : Case → Difference → Type 0
DiffersBy case difference.Arguments = case.asked ≡ asked.Unknown
DiffersBy case (difference.Again pair) = (answer : Answer) × AnswersUnstably case answer
DiffersBy case (difference.Explained pair) = Answers case case.wanted
DiffersBy case other = (answer : Answer) × AnswersOtherwise case answer

-- whether a verdict says that a case is answered as wanted
abbrev pub IsAsWanted : Verdict → Type 0
IsAsWanted verdict.AsWanted = Unit {0}
IsAsWanted (verdict.Differs how) = ⊥

-- what a verdict says of its case
abbrev pub Upholds : Case → Verdict → Type 0
Upholds case verdict.AsWanted = IsAnswered case case.wanted
Upholds case (verdict.Differs how) = DiffersBy case how
