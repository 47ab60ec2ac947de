-- A sender that comes has put nothing.
use Rattle.threads_instance.proofs.Puts.{ends_same, opened_same}
use Rattle.threads_instance.proofs.outbox.Outbox.open.Goals as goal

pub invariant_of-self : goal.invariant_of-self
invariant_of-self g c =
    let old = c.self.inside.peers in
    let new = c.open.new.self in
    ends_same c.self.inside.sent.items old new
    (opened_same c.args.number c.open.result old new c.args.sender c.requires.fresh c.open.ensures.opened)
    c.self.invariant
