-- The latest of all.
use Rattle.std.proofs.Common.{◌≡◌, ◌∙◌, ap, map, rules, sym}
use Rattle.std.specs.Prelude.{max}
use Rattle.std.proofs.lemmas.List.{take_all}
use Rattle.settle_meaning.specs.Times.{greatest}
use Rattle.settle_checks.proofs.SummingEndLemmas.{latest_all, latest_more}
use Rattle.settle_checks.specs.declared.summing.summary.Summary.{Summary}
use Rattle.settle_checks.proofs.summing.ends.latest.Goals as goal

pub loop-sum-preserved : goal.loop-sum-preserved
loop-sum-preserved c =
    let is : c.max-latest.result ≡ max c.sum-item.result.course.time c.loop-sum.latest = search rules in
    latest_more c.args.sums.now c.loop-sum.sum-index c.sum-item.result c.loop-sum.latest c.max-latest.result
    c.loop-sum-test.true c.sum-item.is is c.loop-sum.invariant

pub returns : goal.returns
returns c =
    c.loop-sum.invariant
    ∙ ap (λ l. greatest (map (λ (sum : Summary). sum.course.time) l))
    (take_all c.loop-sum.sum-index c.args.sums.now (search rules))
    ∙ sym (latest_all c.args.records.now c.args.sums.now c.requires)
