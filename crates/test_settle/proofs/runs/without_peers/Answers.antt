use Rattle.std.proofs.Common.{◌≡◌, sym, subst, Bool, List}
use Rattle.port_model.specs.Ends.{OwnerState}
use Rattle.port_model.specs.declared.values.value.Value.{Value}
use Rattle.run_record.specs.Record.{RecordValue}
use Rattle.settle_closing.specs.Left.{IsLeftOfOne}
use Rattle.threads_instance.specs.declared.doings.Child.{Child}
use Rattle.threads_ports.specs.Peers.{PeersState}
use Rattle.test_settle.proofs.runs.without_peers.Goals as goal

pub new-requires-2 : goal.new-requires-2
new-requires-2 g c =
    let system = g.J.Run.system in
    let ports = g.J.Run.ports in
    let closing = c.args.closing in
    let left = c.into_left-trace.result in
    let is = c.into_left-trace.ensures in
    let by_peers = subst (λ (p : PeersState).
    IsLeftOfOne system ports closing.whole closing.trace closing.owner p closing.given closing.children)
    (sym c.new.ensures)
    (c.left_without_peers.ensures system ports closing.whole closing.trace closing.owner closing.peers closing.given
    closing.children c.is_left.ensures) in
    let by_given = subst (λ (v : List Value).
    IsLeftOfOne system ports closing.whole closing.trace closing.owner c.new.result v closing.children) (sym is.given)
    by_peers in
    let by_children = subst (λ (l : List Child).
    IsLeftOfOne system ports closing.whole closing.trace closing.owner c.new.result left.gifts.given l) (sym is.children)
    by_given in
    let by_owner = subst (λ (o : OwnerState).
    IsLeftOfOne system ports closing.whole closing.trace o c.new.result left.gifts.given left.gifts.children.items)
    (sym is.owner) by_children in
    let by_trace = subst (λ (t : RecordValue). IsLeftOfOne system ports closing.whole t left.inbox.owner c.new.result
    left.gifts.given left.gifts.children.items) (sym is.trace) by_owner in
    subst (λ (w : Bool). IsLeftOfOne system ports w left.trace left.inbox.owner c.new.result left.gifts.given
    left.gifts.children.items) (sym c.whole-whole.ensures) by_trace
