-- What a writer has got of what a run covered.
use Rattle.std.specs.Prelude.{◌≡◌, ℕ, List, Option, is_some}
use Rattle.std.specs.Io.KnownBytes.{Appends, Keeps}
use Rattle.sdl_engine.specs.declared.options.TextFault.{TextFault}
use Rattle.sdl_engine.specs.declared.options.TextFault.TheVariants as faults
use Rattle.sdl_engine.specs.Parts.{HasParts}
use Rattle.sdl_report.specs.Gathered.{BreaksOff}
use Rattle.view_coverage.specs.Covered.{IsCoverage}
use Rattle.view_coverage.specs.declared.covered.run.Form.{Form}
use Rattle.view_coverage.specs.declared.covered.run.Run.{Run}
use Rattle.sdl_command_line.specs.declared.views.covering.ToldRun.{ToldRun}

-- the same run, its texts parted
pub record IsRunOf (told : ToldRun) (run : Run) : Type 0 where
  pub parts : HasParts told.texts.now run.text.now run.script.now
  pub limit : run.limit ≡ told.options.now.limit
  pub on_threads : run.on_threads ≡ is_some told.options.now.workers
  pub system : run.system.now ≡ told.run.now.system
  pub report : run.report.now ≡ told.run.now.report

-- the text says in this form what the run covered
abbrev pub SaysCovered : ToldRun → Form → List ℕ → Type 0
SaysCovered told form text = (run : Run) × IsRunOf told run × IsCoverage run form told.source.now text

-- such a text has gone out
abbrev pub IsTextOut : ToldRun → Form → Option (List ℕ) → Option (List ℕ) → Type 0
IsTextOut told form old new = (text : List ℕ) × SaysCovered told form text × Appends old new text

-- a beginning of such a text has gone out, and not all of it
abbrev pub IsTextBegun : ToldRun → Form → Option (List ℕ) → Option (List ℕ) → Type 0
IsTextBegun told form old new = (text : List ℕ) × SaysCovered told form text × BreaksOff old new text

-- what has gone out before this fault: nothing, if there was no memory for the text
abbrev pub FailsToCover : TextFault → ToldRun → Form → Option (List ℕ) → Option (List ℕ) → Type 0
FailsToCover faults.Read told form old new = ⊥
FailsToCover faults.Write told form old new = IsTextBegun told form old new
FailsToCover faults.Memory told form old new = Keeps old new
