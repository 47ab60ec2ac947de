use Rattle.std.proofs.Common.{◌∙◌}
use Rattle.std.proofs.lemmas.Result.{err_from_is_err_and}
use Rattle.sdl_tree.specs.Views.{tree_value}
use Rattle.sdl_print.proofs.RoundTripLemmas.{settled, readable}
use Rattle.sdl_print.proofs.system.canonicalize.Goals as goal

pub returns-in_err-tree-clause-readable : goal.returns-in_err-tree-clause-readable
returns-in_err-tree-clause-readable c = λ source is.
    let told = err_from_is_err_and c.from_residual.result c.from_residual.ensures.1 in
    rw (told.1, told.2) (readable c.reads_again.ensures _ c.args.text.now source is c.in_err-tree.ensures.refused)

pub returns-in-Ok-clause-settled : goal.returns-in-Ok-clause-settled
returns-in-Ok-clause-settled c =
    λ source is. c.in-Ok.ensures ∙ settled c.reads_again.ensures (tree_value c.in_ok-tree.tree) c.args.text.now source is c.in_ok-tree.ensures.found
