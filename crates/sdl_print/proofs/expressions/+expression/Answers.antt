use Rattle.std.proofs.Common.{sym, ap, ◌∙◌, ◌∷◌}
use Rattle.std.proofs.lemmas.List.{drop_all}
use Rattle.sdl_tree.specs.declared.expressions.Chain.{out-Chain}
use Rattle.sdl_tree.specs.declared.mark.Mark.TheVariants as mark
use Rattle.sdl_tree.specs.Canonical.{fixed, expr_words}
use Rattle.sdl_tree.specs.Erased.{erased_name, erased_expr}
use Rattle.sdl_tree.specs.Views.{name_value, expr_value}
use Rattle.sdl_tree.specs.Words as word
use Rattle.sdl_print.specs.Wrote.{followed_by}
use Rattle.sdl_print.proofs.ExpressionLemmas.{rest_words, chain_words, timer_words, active_words}
use Rattle.sdl_print.proofs.ListLemmas.{on_ok}
use Rattle.sdl_print.proofs.expressions.+expression.Goals as goal

pub expression-returns-in_ok-values-in-Active : goal.expression-returns-in_ok-values-in-Active
expression-returns-in_ok-values-in-Active t c =
    let a = c.in-Active in
    rw a.is (on_ok c.mark-in-Active-3.result (λ h j. h j ∙ c.in_ok-values-in-Active.ensures _ ∙ c.in_ok-write-in-Active.ensures _
    ∙ c.in_ok-mark-in-Active-2.ensures _ ∙ c.in_ok-mark-in-Active.ensures _
    ∙ ap (λ values. followed_by c.args.text.now (fixed mark.Active ∷ fixed mark.Open ∷ word.Name (erased_name (name_value a.timer)) ∷ timer_words values (fixed mark.Close ∷ j)))
    c.deref.ensures.value
    ∙ ap (followed_by c.args.text.now) (sym (active_words a.word a.timer a.listed j))) c.mark-in-Active-3.ensures)

pub chain-returns : goal.chain-returns
chain-returns t c = λ j.
    let links = c.deref-link-items.result.now in
    ap (λ rest. followed_by c.loop-link.text (rest_words rest j)) (sym (drop_all c.loop-link.link-index links c.loop-link-test.false))
    ∙ c.loop-link.invariant j
    ∙ c.in_ok-expression.ensures _
    ∙ ap (λ rest. followed_by c.args.text.now (expr_words (erased_expr (expr_value (out-Chain c.args.chain.now).first)) (rest_words rest j))) c.deref-link-items.ensures.value
    ∙ ap (followed_by c.args.text.now) (sym (chain_words c.args.chain.now j))
