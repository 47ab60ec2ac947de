-- What is known of the parts of decisions.
use Rattle.std.specs.Prelude.{◌≡◌, ◌<◌, ℕ, true, false, List, slice_index, vec_len}
use Rattle.std.specs.Global.{Vec}
use Rattle.run_record.specs.declared.record.Report.{Report}
use Rattle.run_semantics.specs.Behaves.{AreBehaviours}
use Rattle.sdl_build.specs.Built.{IsBuilt}
use Rattle.sdl_script.specs.ScriptText.{SaysScript}
use Rattle.sdl_script.specs.declared.script.ScriptLine.{ScriptLine}
use Rattle.sdl_system.specs.Behaviour.{Behaviour}
use Rattle.sdl_system.specs.System.{SystemValue}
use Rattle.sdl_tree.specs.Tree.{Tree}
use Rattle.serial_order.specs.Report.{IsSerialReport}
use Rattle.view_coverage.specs.Marks.{IsMarkedRun, passes_in}
use Rattle.view_coverage.specs.declared.covered.answers.Answers as answers
use Rattle.view_coverage.specs.declared.covered.answers.Answers.TheVariants as known
use Rattle.view_coverage.specs.declared.covered.run.Run.{Run}

-- The report is that of a serial run of some specification on this script, cut at the limit if it comes to that.
pub record IsOfScript (script : List ℕ) (limit : ℕ) (report : Report) : Type 0 where
  pub tree : Tree
  pub system : SystemValue
  pub lines : List ScriptLine
  pub built : IsBuilt tree system
  pub says : SaysScript system script lines
  pub ran : (ps : List Behaviour) → AreBehaviours system ps → IsSerialReport ps system lines limit report

-- The counts of so many parts are those of marks, in the report of a run on the same script that is without its marks
-- the report of the run.
pub record AreOfMarks (run : Run) (parts : ℕ) (counts : Vec ℕ) : Type 0 where
  pub marked : Report
  pub is_run : IsOfScript run.script.now run.limit marked
  pub is_marked : IsMarkedRun run.system.now run.report.now marked
  pub size : vec_len counts ≡ parts
  pub are_counts : (part : ℕ) → part < parts
      → slice_index counts.items part ≡ passes_in run.system.now marked.records.items part

-- Of a run with workers nothing is known.
abbrev pub AreRight : Run → ℕ → answers.Answers → Type 0
AreRight run parts (known.Known counts) = (run.on_threads ≡ false) × AreOfMarks run parts counts
AreRight run parts known.NotOfThreads = run.on_threads ≡ true
AreRight run parts known.OtherRun = run.on_threads ≡ false
