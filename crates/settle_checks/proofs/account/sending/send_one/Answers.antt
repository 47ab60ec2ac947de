-- All was put that is sent.
use Rattle.std.proofs.Common.{◌∙◌, ◌++◌, ap, List, subst, sym}
use Rattle.std.specs.List.{flat_map}
use Rattle.port_model.specs.declared.values.pid.Pid.TheVariants.{Of}
use Rattle.settle_checks.proofs.SendLemmas.{sent_whole}
use Rattle.settle_checks.specs.Crossings.{crossing_out}
use Rattle.settle_checks.specs.Flows.{AreFlows, sent_passes}
use Rattle.settle_checks.specs.declared.summing.flows.Flow.{Flow}
use Rattle.settle_checks.proofs.account.sending.send_one.Goals as goal

pub returns-then-are_all_put : goal.returns-then-are_all_put
returns-then-are_all_put g c =
    let trace = c.args.trace.now in
    let passes = sent_passes 0 trace.events in
    let flows = c.as_slice-flows.result.now in
    let old = c.args.sent.now.items in
    sent_whole c.args.records.now c.args.sums.now (Of trace.pid) passes flows c.args.peers.now old
    c.add_sent.new.all.items
    (subst (λ (l : List Flow). AreFlows passes l) (sym c.as_slice-flows.ensures) c.requires.sum.sending.flows)
    (c.are_all_put.ensures c.if-are_all_put.true)
    (c.in_ok-add_sent.ensures ∙ ap (λ number. old ++ flat_map (crossing_out (Of number)) flows) c.pid.ensures)
