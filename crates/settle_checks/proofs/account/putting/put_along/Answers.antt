-- One flow more.
use Rattle.std.proofs.Common.{◌≡◌, ◌∙◌, ap, get_or, List, ℕ, subst}
use Rattle.std.proofs.lemmas.List.{get_or_default}
use Rattle.port_model.specs.declared.values.pid.Pid.TheVariants.{Of}
use Rattle.settle_checks.proofs.AccountEnoughLemmas.{no_flow}
use Rattle.settle_checks.proofs.AccountLists.{at_done, at_more}
use Rattle.settle_checks.specs.Account.{ArePutAlong, IsPutToOne}
use Rattle.settle_checks.specs.declared.summing.flows.Flow.{Flow}
use Rattle.settle_checks.proofs.account.putting.put_along.Goals as goal

pub loop-flow-preserved : goal.loop-flow-preserved
loop-flow-preserved g c = λ heard named.
    let records = c.args.records.now in
    let from = c.args.from.now in
    let peers = c.args.peers.now in
    let flows = c.as_slice-flow-items.result.now in
    let i = c.loop-flow.flow-index in
    at_more
    (λ k (flow : Flow). (number : ℕ) → flow.pass.peer ≡ Of number → IsPutToOne heard records from peers number) flows i
    (get_or flows i no_flow) c.loop-flow-test.true
    (get_or_default flows i no_flow (get_or flows i no_flow) c.loop-flow-test.true)
    (c.loop-flow.invariant heard named)
    (λ number is.
    c.in_ok-put_to_peer.ensures heard named number
    (ap (λ (flow : Flow). flow.pass.peer) (get_or_default flows i _ no_flow c.loop-flow-test.true) ∙ is))

pub returns : goal.returns
returns g c = λ heard named.
    subst (λ (flows : List Flow). ArePutAlong heard c.args.records.now c.args.from.now c.args.peers.now flows)
    c.as_slice-flow-items.ensures
    (at_done
    (λ k (flow : Flow). (number : ℕ) → flow.pass.peer ≡ Of number
    → IsPutToOne heard c.args.records.now c.args.from.now c.args.peers.now number)
    c.as_slice-flow-items.result.now c.loop-flow.flow-index c.loop-flow-test.false (c.loop-flow.invariant heard named))
