-- A sender that comes has put nothing, and goes into a port.
use Rattle.threads_shared.proofs.Sent.{ports_opened}
use Rattle.threads_instance.proofs.Puts.{opened_same}
use Rattle.threads_shared.proofs.sending.open.Goals as goal

pub returns-clause-ports : goal.returns-clause-ports
returns-clause-ports g c =
    ports_opened c.args.number c.open.result c.args.peers.now c.open.new.self c.in-Ok.sender c.open.ensures.opened
    c.requires.there c.requires.ports

pub returns-clause-same : goal.returns-clause-same
returns-clause-same g c =
    opened_same c.args.number c.open.result c.args.peers.now c.open.new.self c.in-Ok.sender c.in-Ok.ensures.fresh
    c.open.ensures.opened
