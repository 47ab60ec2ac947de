-- All was put that is sent.
use Rattle.std.proofs.Common.{List, subst, sym}
use Rattle.std.specs.Prelude.{IfSome, Option}
use Rattle.settle_checks.proofs.SendLemmas.{sent_whole}
use Rattle.settle_checks.specs.Flows.{AreFlows}
use Rattle.settle_checks.specs.declared.summing.flows.Flow.{Flow}
use Rattle.settle_checks.proofs.account.sending.send_passes.Goals as goal

pub returns-then-are_all_put : goal.returns-then-are_all_put
returns-then-are_all_put g c =
    let passes = c.args.passes.now in
    sent_whole c.args.records.now c.args.sums.now c.args.from passes c.as_slice-flows.result.now c.args.peers.now
    c.args.sent.now.items c.add_sent.new.all.items
    (subst (λ (l : List Flow). AreFlows passes l) (sym c.as_slice-flows.ensures)
    (subst (λ (o : Option (List Flow)). IfSome o (AreFlows passes)) c.in-Some.is c.in_ok-counted.ensures))
    (c.are_all_put.ensures c.if-are_all_put.true) c.in_ok-add_sent.ensures
