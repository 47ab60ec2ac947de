use Rattle.threads_ports.proofs.instances.seat.Seat.is_full.Goals as goal

pub returns-clause-once : goal.returns-clause-once
returns-clause-once c = rw (← c.self.view_is) c.self.invariant.knows.once

pub returns-clause-whole : goal.returns-clause-whole
returns-clause-whole c = rw (← c.self.view_is) c.self.invariant.knows.whole
