use Rattle.std.proofs.Common.{◌++◌, ◌∷◌, [], subst, sym}
use Rattle.settle_checks.specs.Summary.{AreSummaries, IsSummary}
use Rattle.settle_checks.proofs.AccountLists.{zip_push}
use Rattle.settle_checks.proofs.account.looking.found_in.Goals as goal

pub loop-look-preserved : goal.loop-look-preserved
loop-look-preserved c =
    let yielded = c.loop-look.yielded in
    let look = c.in-Some.look in
    subst (AreSummaries (yielded ++ look ∷ [])) (sym c.in_ok-push.ensures.items)
    (zip_push IsSummary yielded c.loop-look.sums.items look c.in_ok-into_summary.field-0 c.loop-look.invariant
    c.in_ok-into_summary.ensures)
