-- One record more is looked at, and in the end all are.
use Rattle.std.proofs.Common.{◌≡◌, List, arith, get_or, rules, subst}
use Rattle.settle_checks.proofs.SummingLists.{all_done, all_step}
use Rattle.settle_checks.proofs.StartLemmas.{are_started, born_more}
use Rattle.settle_checks.proofs.Zips.{zip_of}
use Rattle.settle_checks.specs.Starts.{AreBornBy, StartsFirst}
use Rattle.settle_checks.specs.Summary.{IsSummary}
use Rattle.settle_checks.specs.declared.summing.creating.Birth.{Birth}
use Rattle.settle_checks.proofs.summing.starts.are_started.Goals as goal

pub starts_first-requires : goal.starts_first-requires
starts_first-requires c =
    zip_of IsSummary c.args.records.now c.args.sums.now c.loop-k.k c.index-records-k.result c.index-sums-k.result
    c.requires.sums c.loop-k-test.true c.index-records-k.is c.index-sums-k.is

pub loop-k-preserved : goal.loop-k-preserved
loop-k-preserved c =
    let records = c.args.records.now in
    let sums = c.args.sums.now in
    let k = c.loop-k.k in
    let d = c.index-records-k-in-loop-k.result in
    let e = c.index-sums-k-in-loop-k.result in
    let creator_is : c.pid.result ≡ (get_or records k d).pid = search rules in
    let births_are : c.deref.result.now ≡ (get_or sums k e).creating.births.items = search rules in
    record {
      first = all_step StartsFirst records k c.index-records-k.result c.loop-k-test.true c.index-records-k.is
          c.loop-k.invariant.first (c.starts_first.ensures c.if-not-starts_first.false);
      born = born_more records sums k c.pid.result d e c.loop-k-test.true c.if-k-sums.false creator_is
          (subst (λ (l : List Birth). AreBornBy records c.pid.result l) births_are
          (c.are_born.ensures c.if-not-are_born.false))
          c.loop-k.invariant.born;
    }

pub returns : goal.returns
returns c = λ all.
    are_started c.args.records.now c.args.sums.now c.requires.sums
    (all_done StartsFirst c.args.records.now c.loop-k.k c.loop-k-test.false c.loop-k.invariant.first)
    (λ k d e less. c.loop-k.invariant.born k d e (omega (arith, less, c.loop-k-test.false)))
