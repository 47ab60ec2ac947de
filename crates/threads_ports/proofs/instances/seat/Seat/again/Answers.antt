use Rattle.std.proofs.Common.{arith}
use Rattle.threads_ports.proofs.instances.seat.Seat.again.Goals as goal

pub invariant_of-self : goal.invariant_of-self
invariant_of-self c =
    let was = c.self.invariant in
    let parts = was.parts in
    let right = was.knows.right in
    let most = was.knows.most in
    let once = was.knows.once in
    rw (c.split-place.ensures.table.0, c.split-place.ensures.seat) (grind arith)
