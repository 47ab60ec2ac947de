-- The sender of this number goes, and all others stay.
use Rattle.std.proofs.Common.{◌∙◌, ap, cond, nat_eq, None, refl}
use Rattle.threads_ports.proofs.SendersKept.{kept_set, last_in}
use Rattle.threads_ports.specs.Peers.{PeersState, sender_to}
use Rattle.threads_ports.proofs.senders.peers.Peers.take.Goals as goal

pub returns-clause-others : goal.returns-clause-others
returns-clause-others g c = λ n.
    let number = c.args.number in
    c.swap_remove.ensures.updates.0 n ∙ ap (λ (l : PeersState). cond (nat_eq number n) None (sender_to l n)) c.self.view_is

pub returns-clause-last : goal.returns-clause-last
returns-clause-last g c =
    last_in c.args.number c.args.self.now c.swap_remove.result
    (c.swap_remove.ensures.value ∙ ap (λ (l : PeersState). sender_to l c.args.number) c.self.view_is)

pub returns-clause-kept : goal.returns-clause-kept
returns-clause-kept g c =
    kept_set c.args.self.now c.swap_remove.new.self.entries c.args.number None (returns-clause-others g c) refl
