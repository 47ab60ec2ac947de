-- One more is covered, and in the end all are.
use Rattle.std.proofs.Common.{rules, take}
use Rattle.std.proofs.lemmas.List.{take_all}
use Rattle.settle_checks.proofs.CoveredLemmas.{covered_all, covered_more}
use Rattle.settle_checks.proofs.summing.covered.use_all.Goals as goal

pub loop-one-preserved : goal.loop-one-preserved
loop-one-preserved c =
    covered_more c.args.left.now c.loop-one.left c.use_for.new.left c.args.taken.now c.loop-one.one-index _
    c.loop-one-test.true c.in-Some.ensures.used c.loop-one.invariant

pub returns : goal.returns
returns c = λ all.
    covered_all c.args.left.now c.loop-one.left c.args.taken.now (take c.loop-one.one-index c.args.taken.now)
    (take_all c.loop-one.one-index c.args.taken.now (search rules)) c.loop-one.invariant
