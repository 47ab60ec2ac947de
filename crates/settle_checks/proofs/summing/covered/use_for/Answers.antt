-- Where nothing is left of what was taken, all of it was used for.
use Rattle.settle_checks.proofs.CoveredLemmas.{used_all}
use Rattle.settle_checks.proofs.summing.covered.use_for.Goals as goal

pub returns-then-not-can_use-clause-used : goal.returns-then-not-can_use-clause-used
returns-then-not-can_use-clause-used c =
    used_all c.args.taken.way c.args.taken.count c.loop-place.rest c.args.left.now c.loop-place.left c.none_left.result
    c.loop-place.invariant.less c.none_left.ensures c.loop-place.invariant.used

pub returns-clause-used : goal.returns-clause-used
returns-clause-used c =
    used_all c.args.taken.way c.args.taken.count c.loop-place.rest c.args.left.now c.loop-place.left
    c.none_left-2.result
    c.loop-place.invariant.less c.none_left-2.ensures c.loop-place.invariant.used
