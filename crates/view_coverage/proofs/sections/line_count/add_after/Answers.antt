use Rattle.std.proofs.Common.{[], ◌∷◌, ◌++◌, ◌∙◌, ap, arith, refl, subst, sym}
use Rattle.std.proofs.lemmas.List.{append_assoc}
use Rattle.view_coverage.specs.Lcov.{AreUpTo}
use Rattle.view_coverage.proofs.OrderLemmas.{joined, one_more}
use Rattle.view_coverage.proofs.sections.line_count.add_after.Goals as goal

pub returns-in_ok-push-clause-order : goal.returns-in_ok-push-clause-order
returns-in_ok-push-clause-order c =
    λ up. subst (AreUpTo c.args.count.line) (sym c.in_ok-push.ensures.items)
    (joined c.args.count.line c.args.lines.now.items c.args.last _ refl up)

pub returns-in_ok-push-3-clause-order : goal.returns-in_ok-push-3-clause-order
returns-in_ok-push-3-clause-order c =
    let lines = c.args.lines.now.items in
    let last = c.args.last in
    let count = c.args.count in
    let all =
    c.in_ok-push-3.ensures.items ∙ ap (λ l. l ++ count ∷ []) c.in_ok-push-2.ensures.items
    ∙ append_assoc lines (last ∷ []) (count ∷ []) in
    λ up. subst (AreUpTo count.line) (sym all)
    (one_more lines last count (λ same. omega (arith, same, c.if-last-count.false)) up)
