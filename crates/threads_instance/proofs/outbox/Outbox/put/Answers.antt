-- What is put is sent.
use Rattle.std.proofs.Common.{ap, subst, sym, ℕ, List}
use Rattle.port_model.specs.declared.values.item.Item.{Item}
use Rattle.threads_instance.proofs.Puts.{ends_put, ends_same}
use Rattle.threads_instance.specs.Outbox.{AreEnds}
use Rattle.threads_ports.specs.Peers.{PeersState, put_to}
use Rattle.threads_instance.proofs.outbox.Outbox.put.Goals as goal

pub invariant_of-self : goal.invariant_of-self
invariant_of-self g c =
    ends_same c.self.inside.sent.items c.self.inside.peers c.put.new.self
    (λ n. ap (λ (peers : PeersState). put_to peers n) c.in_err-put.ensures.put.1) c.self.invariant

pub invariant_of-self-2 : goal.invariant_of-self-2
invariant_of-self-2 g c =
    let new = c.put.new.self in
    subst (λ (sent : List (ℕ × Item)). AreEnds sent new) (sym c.and-sent.ensures)
    (ends_put c.args.number c.args.item c.self.inside.sent.items c.self.inside.peers new c.in_ok-put.ensures.put
    c.self.invariant)
