-- Each output is one of those that are right.
use Rattle.std.proofs.Common.{All, List, subst}
use Rattle.settle_checks.specs.declared.targets.Routed.{Routed}
use Rattle.settle_checks.specs.Routes.{IsRight}
use Rattle.settle_checks.proofs.SummingRouteLemmas.{record_meant}
use Rattle.settle_checks.proofs.summing.routes.are_meant.Goals as goal

pub returns-clause-meant : goal.returns-clause-meant
returns-clause-meant c = λ right.
    let system = c.args.system.now in
    let records = c.args.records.now in
    record_meant system records c.args.trace.now c.args.sum.now c.requires.sum
    (subst (λ (l : List Routed). All (IsRight system records) l) c.deref.ensures.value
    (c.are_right.ensures.right right))
