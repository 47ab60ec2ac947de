-- The last sender goes, and all others stay.
use Rattle.std.proofs.Common.{◌∙◌, ap, append-nil, cond, nat_eq, None, refl, sym}
use Rattle.threads_ports.proofs.SendersKept.{kept_same, kept_set, last_of}
use Rattle.threads_ports.proofs.SenderLemmas.{sender_to-last}
use Rattle.threads_ports.specs.Peers.{PeersState, sender_to}
use Rattle.threads_ports.proofs.senders.peers.Peers.release.Goals as goal

pub returns-in_err-number-clause-kept : goal.returns-in_err-number-clause-kept
returns-in_err-number-clause-kept g c =
    let left = c.pop.new.self.entries in
    kept_same c.args.self.now left (sym (append-nil left) ∙ sym c.in_err-number.ensures.entries ∙ c.self.view_is)

pub returns-clause-port : goal.returns-clause-port
returns-clause-port g c =
    let number = c.in_ok-number.number in
    let sender = c.in_ok-number.sender in
    let last = c.in_ok-number.ensures in
    c.self.invariant number sender
    (ap (λ (l : PeersState). sender_to l number) last.entries
    ∙ sender_to-last number c.pop.new.self.entries sender last.updates.1)

pub returns-clause-last : goal.returns-clause-last
returns-clause-last g c =
    let last = c.in_ok-number.ensures in
    last_of c.in_ok-number.number c.args.self.now c.pop.new.self.entries c.in_ok-number.sender
    (sym c.self.view_is ∙ last.entries) last.updates.1

pub returns-clause-kept : goal.returns-clause-kept
returns-clause-kept g c =
    let number = c.in_ok-number.number in
    kept_set c.args.self.now c.pop.new.self.entries number None
    (λ n. c.in_ok-number.ensures.updates.0 n
    ∙ ap (λ (l : PeersState). cond (nat_eq number n) None (sender_to l n)) c.self.view_is)
    refl
