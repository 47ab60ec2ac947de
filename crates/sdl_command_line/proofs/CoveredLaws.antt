-- When a text says what a run covered.
use Rattle.std.proofs.Common.{ℕ, List, Result, Ok, Err, IfOk}
use Rattle.view_coverage.specs.Covered.{IsCoverage}
use Rattle.view_coverage.specs.declared.covered.run.Form.{Form}
use Rattle.view_coverage.specs.declared.covered.run.Run.{Run}
use Rattle.sdl_command_line.specs.Covered.{IsRunOf, SaysCovered}
use Rattle.sdl_command_line.specs.declared.views.covering.ToldRun.{ToldRun}

pub says_covered :
    (told : ToldRun) (form : Form) (run : Run) (text : List ℕ) → IsCoverage run form told.source.now text
    → IsRunOf told run → SaysCovered told form text
says_covered told form run text covered is_of = (run, is_of, covered)

pub if_ok : {A E : Type 0} (r : Result A E) (P Q : A → Type 0) → IfOk r P → ((x : A) → P x → Q x) → IfOk r Q
if_ok (Ok x) P Q is more = more x is
if_ok (Err e) P Q is more = tt
