use Rattle.std.proofs.Common.{◌∙◌, ◌++◌, ◌∷◌, [], ap, map, sym, take}
use Rattle.std.proofs.lemmas.List.{map-append, take_all}
use Rattle.std.proofs.lemmas.Grind.{take_at_read}
use Rattle.build_expressions.specs.Constants.{binary_value, value_of}
use Rattle.sdl_system.specs.Term.{Operand, Term, chain_step, chained, expression_step, link_step, operand_of, term_of}
use Rattle.sdl_system.specs.declared.expression.Chain.{out-Chain}
use Rattle.sdl_system.specs.declared.expression.Expression.TheFolds.{fold_out-Chain}
use Rattle.build_expressions.proofs.ArgumentLemmas.{chained-last}
use Rattle.build_expressions.proofs.constants.+value_of.Goals as goal

pub chain_value-loop-link-preserved : goal.chain_value-loop-link-preserved
chain_value-loop-link-preserved t c =
    let links = c.deref-link-items.result.now in
    let i = c.loop-link.link-index in
    let link = c.link-item.result in
    let first = term_of (out-Chain c.args.chain.now).first in
    let before = map operand_of (take i links) in
    let right = operand_of link in
    c.link_value-value.ensures
    ∙ ap (λ left. binary_value right.operation left (value_of right.term)) c.loop-link.invariant
    ∙ sym (ap value_of (ap (λ list. chained first (map operand_of list))
    ((take_at_read links i link c.loop-link-test.true).1 ∙ ap (λ x. take i links ++ x ∷ []) (sym c.link-item.is))
    ∙ ap (chained first) (map-append operand_of (take i links) (link ∷ []))
    ∙ chained-last first before right))

pub chain_value-returns : goal.chain_value-returns
chain_value-returns t c =
    let links = c.deref-link-items.result.now in
    let first = term_of (out-Chain c.args.chain.now).first in
    c.loop-link.invariant
    ∙ ap (λ list. value_of (chained first (map operand_of list)))
    (take_all c.loop-link.link-index links c.loop-link-test.false ∙ c.deref-link-items.ensures.value)
    ∙ ap value_of (sym (fold_out-Chain Term Term Operand expression_step chain_step link_step c.args.chain.now))
