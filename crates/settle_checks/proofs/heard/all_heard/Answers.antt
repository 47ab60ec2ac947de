-- Enough was heard by one more.
use Rattle.std.proofs.Common.{get_or, map, rules, subst, sym}
use Rattle.std.proofs.Common.{Global, Vec}
use Rattle.std.specs.Prelude.{IfSome}
use Rattle.run_record.specs.Record.{RecordValue}
use Rattle.settle_checks.proofs.Lists.{all_done, all_step}
use Rattle.settle_checks.specs.Outputs.{AreTallied, IsEnoughHeard, outline_to}
use Rattle.settle_checks.specs.declared.outputs.Tally.{Tally}
use Rattle.settle_meaning.specs.Puts.{IsNamed}
use Rattle.settle_checks.proofs.heard.all_heard.Goals as goal

pub loop-to-preserved : goal.loop-to-preserved
loop-to-preserved c = λ heard same named.
    let tallied : AreTallied (map outline_to c.args.targets.now) c.in-Some.row.items =
    subst (λ o. IfSome o (λ (tallies : Vec Tally Global). AreTallied (map outline_to c.args.targets.now) tallies.items))
    c.in-Some.is c.in_ok-row.ensures in
    all_step (λ (to : RecordValue). IsEnoughHeard (IsNamed heard) heard to (get_or c.args.sent.now to.pid 0))
    c.args.records.now c.loop-to.to-index c.to-item.result c.loop-to-test.true c.to-item.is
    (c.loop-to.invariant heard same named)
    (c.is_enough.ensures c.if-not-is_enough.false heard
    (subst (λ l. AreTallied (map outline_to l) c.deref.result.now) (sym same)
    (subst (AreTallied (map outline_to c.args.targets.now)) (sym c.deref.ensures.value) tallied)) named)

pub returns : goal.returns
returns c = λ _ heard same named.
    all_done (λ (to : RecordValue). IsEnoughHeard (IsNamed heard) heard to (get_or c.args.sent.now to.pid 0))
    c.args.records.now c.loop-to.to-index (search rules) (c.loop-to.invariant heard same named)
