-- A new sender comes last, and has put nothing.
use Rattle.std.proofs.Common.{◌∙◌, ◌++◌, ◌∷◌, [], ap, cond, nat_eq, Some}
use Rattle.indexmap.proofs.CallerLemmas.{insert_entry-new}
use Rattle.threads_ports.proofs.SendersKept.{kept_same, kept_set}
use Rattle.threads_ports.proofs.SenderLemmas.{sender_to-unknown}
use Rattle.threads_ports.specs.Peers.{PeersState, is_known, sender_to}
use Rattle.threads_ports.proofs.senders.peers.Peers.open.Goals as goal

pub returns-in-Ok-clause-opened : goal.returns-in-Ok-clause-opened
returns-in-Ok-clause-opened g c =
    let number = c.args.number in
    let senders = c.self.inside.senders in
    let unknown = ap (λ (l : PeersState). is_known l number) c.self.view_is ∙ c.requires.unknown in
    c.in-Ok.ensures.entries
    ∙ insert_entry-new nat_eq senders number c.args.sender
    (sender_to-unknown (sender_to senders.entries number) unknown)
    ∙ ap (λ (l : PeersState). l ++ (number, c.args.sender) ∷ []) c.self.view_is

pub returns-in-Ok-clause-kept : goal.returns-in-Ok-clause-kept
returns-in-Ok-clause-kept g c =
    let number = c.args.number in
    let sender = Some c.args.sender in
    kept_set c.args.self.now c.insert.new.self.entries number sender
    (λ n. c.in-Ok.ensures.updates.0 n ∙ ap (λ (l : PeersState). cond (nat_eq number n) sender (sender_to l n)) c.self.view_is)
    c.requires.fresh

pub returns-clause-kept : goal.returns-clause-kept
returns-clause-kept g c = kept_same c.args.self.now c.insert.new.self.entries (c.in-Err.ensures.err ∙ c.self.view_is)
