use Rattle.std.proofs.Common.{◌≡◌, ◌+◌, ◌<◌, ◌++◌, ◌∷◌, ◌∙◌, List, ℕ, ap, drop, get_or, length, map, refl, sym}
use Rattle.std.proofs.lemmas.List.{append_assoc, append-nil, at_drop_all, at_drop_more, drop_all}
use Rattle.std.proofs.lemmas.Result.{on_ok_weaker}
use Rattle.build_expressions.proofs.TreeLemmas.{chain_tree}
use Rattle.build_expressions.specs.Scope.{visible}
use Rattle.build_constants.specs.Named.{named_in, named_in_links, named_in_values}
use Rattle.sdl_tree.proofs.ViewLemmas.{active_value}
use Rattle.sdl_tree.specs.Tree.{exprs_of, links_of}
use Rattle.sdl_tree.specs.Views.{expr_value, link_value}
use Rattle.sdl_tree.specs.declared.expressions.Chain.{out-Chain}
use Rattle.build_constants.proofs.synonyms.named.+names.Goals as goal

-- what is made of the first that is left goes over to what stands
left_less : {A C : Type 0} (F : List A → List C) (one : A → List C) (before after all : List C) (xs : List A) (i : ℕ)
    (x : A) → ((y : A) (ys : List A) → F (y ∷ ys) ≡ one y ++ F ys) → i < length xs → x ≡ get_or xs i x →
    before ++ F (drop i xs) ≡ all → after ≡ before ++ one x → after ++ F (drop (i + 1) xs) ≡ all
left_less F one before after all xs i x step below is was here =
    let rest = drop (i + 1) xs in
    ap (λ l. l ++ F rest) here
    ∙ append_assoc before (one x) (F rest)
    ∙ ap (λ l. before ++ l) (sym (step x rest) ∙ ap (λ y. F (y ∷ rest)) is ∙ sym (at_drop_more F xs i x below))
    ∙ was

pub add_named-returns-in-Active : goal.add_named-returns-in-Active
add_named-returns-in-Active t c =
    let a = c.in-Active in
    let values = visible c.args.values.now in
    let old = c.args.numbers.now.items in
    rw a.is (on_ok_weaker c.add_each.result (λ is.
    is
    ∙ ap (λ list. old ++ named_in_values values (exprs_of (map expr_value list))) c.deref.ensures.value
    ∙ ap (λ e. old ++ named_in values e) (sym (active_value a.word a.timer a.asked))) c.add_each.ensures)

pub add_chain-returns : goal.add_chain-returns
add_chain-returns t c =
    let values = visible c.args.values.now in
    let old = c.args.numbers.now.items in
    let first = named_in values (expr_value (out-Chain c.args.chain.now).first) in
    let links = c.deref-link-items.result.now in
    let found = c.loop-link.numbers.items in
    sym (append-nil found)
    ∙ ap (λ list. found ++ named_in_links values (links_of (map link_value list)))
    (sym (drop_all c.loop-link.link-index links c.loop-link-test.false))
    ∙ c.loop-link.invariant
    ∙ ap (λ before. before ++ named_in_links values (links_of (map link_value links))) c.in_ok-add_named.ensures
    ∙ ap (λ list. (old ++ first) ++ named_in_links values (links_of (map link_value list))) c.deref-link-items.ensures.value
    ∙ append_assoc old first (named_in_links values (links_of (map link_value (out-Chain c.args.chain.now).rest.items)))
    ∙ ap (λ e. old ++ named_in values e) (sym (chain_tree c.args.chain.now))

pub add_chain-loop-link-preserved : goal.add_chain-loop-link-preserved
add_chain-loop-link-preserved t c =
    let values = visible c.args.values.now in
    left_less (λ xs. named_in_links values (links_of (map link_value xs)))
    (λ x. named_in values (link_value x).operand) _ _ _ c.deref-link-items.result.now c.loop-link.link-index
    c.link-item.result (λ y ys. refl) c.loop-link-test.true c.link-item.is c.loop-link.invariant
    c.in_ok-add_named-2.ensures

pub add_each-loop-expression-preserved : goal.add_each-loop-expression-preserved
add_each-loop-expression-preserved t c =
    let values = visible c.args.values.now in
    left_less (λ xs. named_in_values values (exprs_of (map expr_value xs))) (λ x. named_in values (expr_value x)) _ _ _
    c.args.expressions.now c.loop-expression.expression-index c.expression-item.result (λ y ys. refl)
    c.loop-expression-test.true c.expression-item.is c.loop-expression.invariant c.in_ok-add_named.ensures

pub add_each-returns : goal.add_each-returns
add_each-returns t c =
    let values = visible c.args.values.now in
    let found = c.loop-expression.numbers.items in
    sym (append-nil found)
    ∙ sym (at_drop_all (λ xs. found ++ named_in_values values (exprs_of (map expr_value xs))) c.args.expressions.now
    c.loop-expression.expression-index c.loop-expression-test.false)
    ∙ c.loop-expression.invariant
