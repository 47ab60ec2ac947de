-- Where there is no sender, nothing was put.
use Rattle.std.proofs.Common.{◌∙◌, ap, subst, sym, ℕ, List}
use Rattle.port_model.specs.declared.values.item.Item.{Item}
use Rattle.threads_instance.proofs.Puts.{ends_lost}
use Rattle.threads_instance.specs.Outbox.{AreEnds, OutboxState}
use Rattle.threads_ports.specs.Peers.{is_known}
use Rattle.threads_instance.proofs.outbox.Outbox.lose.Goals as goal

pub invariant_of-self : goal.invariant_of-self
invariant_of-self g c =
    let peers = c.self.inside.peers in
    let unknown = ap (λ (o : OutboxState). is_known o.peers c.args.number) c.self.view_is ∙ c.requires.unknown in
    subst (λ (sent : List (ℕ × Item)). AreEnds sent peers) (sym c.and-self-inside.ensures)
    (ends_lost c.args.number c.args.item c.self.inside.sent.items peers unknown c.self.invariant)
