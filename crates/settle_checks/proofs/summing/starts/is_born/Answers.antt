-- The child is at the place.
use Rattle.std.proofs.Common.{subst}
use Rattle.settle_checks.proofs.StartLemmas.{born_at}
use Rattle.settle_checks.specs.Starts.{IsStartTime}
use Rattle.settle_checks.specs.declared.summing.summary.Summary.{Summary}
use Rattle.settle_checks.proofs.summing.starts.is_born.Goals as goal

pub returns-then-creator-birth : goal.returns-then-creator-birth
returns-then-creator-birth c = λ right.
    let birth = c.args.birth in
    born_at c.args.records.now c.args.sums.now c.args.creator c.in-Some.place birth c.index-sums-place.result
    c.requires.rising c.requires.sums c.in-Some.ensures c.if-creator-birth.true.1
    (subst (λ (sum : Summary). IsStartTime sum.course.start birth.at) c.index-sums-place.is (c.starts_at.ensures right))
