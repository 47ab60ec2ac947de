-- An expiry is no signal.
use Rattle.threads_instance.proofs.Puts.{ends_same, expired_same}
use Rattle.threads_instance.proofs.outbox.Outbox.expire.Goals as goal

pub invariant_of-self : goal.invariant_of-self
invariant_of-self g c =
    let old = c.self.inside.peers in
    let new = c.expire.new.self in
    ends_same c.self.inside.sent.items old new
    (expired_same c.args.number c.args.at c.args.fuse c.expire.result old new c.expire.ensures.put) c.self.invariant
