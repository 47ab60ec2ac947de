-- Nobody is in one process more.
use Rattle.std.proofs.Common.{◌≡◌, ◌++◌, ◌∷◌, [], None, subst, sym}
use Rattle.settle_checks.proofs.SummingLeast.{none_push}
use Rattle.settle_checks.specs.Least.{HasLeast}
use Rattle.settle_checks.proofs.summing.living.nobody.Goals as goal

pub loop-process-preserved : goal.loop-process-preserved
loop-process-preserved c =
    let pushed : c.push.new.self.items ≡ c.loop-process.first.items ++ None ∷ [] = c.in_ok-push.ensures.items in
    subst (HasLeast []) (sym pushed) (none_push c.loop-process.first.items c.loop-process.invariant)
