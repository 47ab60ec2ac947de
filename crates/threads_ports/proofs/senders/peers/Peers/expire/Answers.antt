-- What the sender answers, its owner answers, and keeps the fact by it.
use Rattle.port_model.specs.declared.inbox.entry.Entry.TheVariants.{Timer}
use Rattle.threads_ports.proofs.SendersKept.{expire_keeps}
use Rattle.threads_ports.proofs.SenderLemmas.{put_through}
use Rattle.threads_ports.proofs.senders.peers.Peers.expire.Goals as goal

pub returns-clause-put : goal.returns-clause-put
returns-clause-put g c =
    let after = c.expire.new.self in
    put_through c.args.number c.args.at (Timer c.args.fuse) c.args.fuse c.expire.result c.self.inside.senders.entries c.args.self.now
    (c.get_mut.follows.lender after).entries c.in-Some.sender.now after c.self.view_is c.in-Some.ensures.value
    (c.get_mut.follows.holds after).0 c.expire.ensures.put

pub returns-clause-kept : goal.returns-clause-kept
returns-clause-kept g c =
    expire_keeps c.args.number c.args.at c.args.fuse c.expire.result c.args.self.now
    (c.get_mut.follows.lender c.expire.new.self).entries (returns-clause-put g c)
