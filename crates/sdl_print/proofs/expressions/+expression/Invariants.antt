use Rattle.std.proofs.Common.{◌≡◌, map, drop}
use Rattle.sdl_tree.specs.Canonical.{more_values_words}
use Rattle.sdl_tree.specs.Erased.{erased_exprs}
use Rattle.sdl_tree.specs.Tree.{exprs_of}
use Rattle.sdl_tree.specs.Views.{expr_value}
use Rattle.sdl_tree.specs.Words.{Words}
use Rattle.sdl_print.specs.Wrote.{followed_by}
use Rattle.sdl_print.proofs.ExpressionLemmas.{rest_words}
use Rattle.sdl_print.proofs.expressions.+expression.Given as goal

abbrev pub invariant-values-loop-value : goal.invariant-values-loop-value
invariant-values-loop-value l = (j : Words) →
    followed_by l.text (more_values_words (erased_exprs (exprs_of (map expr_value (drop l.value-index l.rest)))) j)
    ≡ followed_by l.initial.text (more_values_words (erased_exprs (exprs_of (map expr_value l.rest))) j)

abbrev pub invariant-chain-loop-link : goal.invariant-chain-loop-link
invariant-chain-loop-link l = (j : Words) →
    followed_by l.text (rest_words (drop l.link-index l.link-items) j) ≡ followed_by l.initial.text (rest_words l.link-items j)
