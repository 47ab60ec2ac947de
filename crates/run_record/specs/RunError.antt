-- The line of a run that has no report, without its end.
use Rattle.std.specs.Prelude.{ℕ, List, ◌++◌, codes}
use Rattle.std.specs.Fmt.{decimal}
use Rattle.run_record.specs.declared.run_error.RunError.{RunError}
use Rattle.run_record.specs.declared.run_error.RunError.TheVariants as run

abbrev pub run_text : RunError → List ℕ
run_text run.Memory = codes "run Memory"
run_text (run.Lost number) = codes "run Lost #" ++ decimal number
