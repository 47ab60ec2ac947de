use Rattle.std.proofs.Common.{◌∙◌, ◌∷◌, [], Some, ap, map}
use Rattle.std.proofs.lemmas.List.{map-append}
use Rattle.sdl_system.specs.Term.{Operand, Term, binary, chain_step, chained, expression_step, link_step, operand_of, term_of}
use Rattle.sdl_system.specs.declared.expression.Expression.TheFolds.{fold-roll-Link}
use Rattle.sdl_system.specs.declared.expression.Link.{roll-Link}
use Rattle.build_expressions.proofs.ArgumentLemmas.{chained-last}
use Rattle.build_expressions.proofs.left.more.Goals as goal

pub returns-in_ok-push-in-Some-Some : goal.returns-in_ok-push-in-Some-Some
returns-in_ok-push-in-Some-Some c =
    let arm = c.in-Some-Some in
    let link = roll-Link (record { operation = c.args.operation; operand = arm.operand }) in
    let rest = map operand_of arm.operands.rest.items in
    let first = term_of arm.operands.first in
    rw (arm.is-0, arm.is-1) (ap Some (ap (λ list. chained first (map operand_of list)) c.in_ok-push-in-Some-Some.ensures.items
    ∙ ap (chained first) (map-append operand_of arm.operands.rest.items (link ∷ []))
    ∙ chained-last first rest (operand_of link)
    ∙ ap (λ (last : Operand). binary last.operation (chained first rest) last.term)
    (fold-roll-Link Term Term Operand expression_step chain_step link_step
    (record { operation = c.args.operation; operand = arm.operand }))))
