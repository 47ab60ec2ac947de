-- The numbers so far rise.
use Rattle.std.proofs.Common.{◌≡◌, ◌≤◌, ◌+◌, arith, drop, rules, subst}
use Rattle.run_record.specs.Record.{RecordValue}
use Rattle.run_semantics.specs.World.{most_instances}
use Rattle.settle_checks.proofs.Lists.{all_done, all_step}
use Rattle.settle_checks.proofs.NumberLemmas.{rising_all, rising_more}
use Rattle.settle_meaning.specs.Identities.{AreRising}
use Rattle.settle_checks.proofs.numbers.in_order.Goals as goal

pub loop-record-preserved : goal.loop-record-preserved
loop-record-preserved c =
    let records = c.args.records.now in
    let i = c.loop-record.record-index in
    let item = c.record-item.result in
    let number : c.pid-number.result ≡ item.pid = c.pid-number.ensures in
    record {
      rising = λ rest.
          rising_more records i item c.loop-record.last c.loop-record-test.true c.record-item.is
          (omega (arith, number, c.if-number-last.false)) c.loop-record.invariant.rising
          (subst (λ n. AreRising n (drop (i + 1) records)) number rest);
      within = all_step (λ (trace : RecordValue). trace.pid ≤ most_instances) records i item c.loop-record-test.true
          c.record-item.is c.loop-record.invariant.within (omega (arith, number, c.if-number-gt-MOST_INSTANCES.false));
    }

pub returns-clause-rising : goal.returns-clause-rising
returns-clause-rising c = λ _.
    rising_all c.args.records.now c.loop-record.record-index c.loop-record.last (search rules)
    c.loop-record.invariant.rising

pub returns-clause-within : goal.returns-clause-within
returns-clause-within c = λ _.
    all_done (λ (trace : RecordValue). trace.pid ≤ most_instances) c.args.records.now c.loop-record.record-index
    (search rules) c.loop-record.invariant.within
