use Rattle.std.proofs.Common.{◌∙◌, not, ap}
use Rattle.input_port.proofs.Drawing.{leaves_stopped}
use Rattle.input_port.proofs.held.Held.finish.Goals as goal

pub returns-then-self : goal.returns-then-self
returns-then-self g c =
    let seen = c.self.view_is in
    let done = c.in_default.ensures in
    rw c.leave.ensures (leaves_stopped c.args.self _ (rw (← seen) at done.drawn) (rw (← seen) at done.fresh)
    (rw (← seen) at c.knows.ensures)
    (c.self.invariant.1 ∙ ap not c.if-self.true))
