-- What a run covered, as a text.
use Rattle.std.specs.Prelude.{◌≡◌, ℕ, List, vec_len}
use Rattle.std.specs.List.{AllZip}
use Rattle.sdl_parse.specs.Parser.{SpellsText}
use Rattle.sdl_tree.specs.Tree.{Tree}
use Rattle.view_coverage.specs.Coverage.{counted, times_in}
use Rattle.view_coverage.specs.declared.point.Point.{Point}
use Rattle.view_coverage.specs.Goals.{AreGoals}
use Rattle.view_coverage.specs.declared.goals.goal.Goals.{Goals}
use Rattle.view_coverage.specs.Lcov.{IsTracefile}
use Rattle.view_coverage.specs.Plain.{IsPlainText}
use Rattle.view_coverage.specs.declared.sections.item.Knowledge as knowledge
use Rattle.view_coverage.specs.declared.sections.item.Knowledge.TheVariants as is
use Rattle.view_coverage.specs.declared.sections.item.Section.{Section}
use Rattle.view_coverage.specs.Answers.{AreRight}
use Rattle.view_coverage.specs.Sections.{IsSection, Sources}
use Rattle.view_coverage.specs.declared.covered.answers.Answers as answers
use Rattle.view_coverage.specs.declared.covered.answers.Answers.TheVariants as known
use Rattle.view_coverage.specs.declared.covered.run.Form as form
use Rattle.view_coverage.specs.declared.covered.run.Form.TheVariants as of
use Rattle.view_coverage.specs.declared.covered.run.Run.{Run}

abbrev pub knowledge_of : answers.Answers → knowledge.Knowledge
knowledge_of (known.Known counts) = is.Known
knowledge_of known.NotOfThreads = is.NotOfThreads
knowledge_of known.OtherRun = is.OtherRun

-- the text of these sections in this form; the name is that of the specification's file
abbrev pub IsTextOf : form.Form → List ℕ → List Section → knowledge.Knowledge → List ℕ → Type 0
IsTextOf of.Plain source sections knowledge text = IsPlainText sections knowledge text
IsTextOf of.Lcov source sections knowledge text = IsTracefile knowledge source sections text

-- each point's count is how often the records of the run pass it
abbrev pub AreCounts : Run → List (Point × ℕ) → Type 0
AreCounts run counts = (point : Point) → counted counts point ≡ times_in run.report.now.records.items point

-- The text says of all that there is to cover in a specification how often the run did it.
pub record IsCoverage (run : Run) (form : form.Form) (source text : List ℕ) : Type 0 where
  pub tree : Tree
  pub spelled : SpellsText tree run.text.now
  pub goals : Goals
  pub are_goals : AreGoals tree goals.processes.items
  pub sources : Sources
  pub of_system : sources.system ≡ run.system.now
  pub of_goals : sources.answer_goals ≡ goals.answers.items
  pub are_counts : AreCounts run sources.counts
  pub are_right : AreRight run (vec_len goals.answers) sources.answers
  pub sections : List Section
  pub are_sections : AllZip (IsSection sources) goals.processes.items sections
  pub is_text : IsTextOf form source sections (knowledge_of sources.answers) text
