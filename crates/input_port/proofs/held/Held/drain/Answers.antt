use Rattle.std.proofs.Common.{◌∙◌, ap, not}
use Rattle.input_port.proofs.Drawing.{drawn-alive}
use Rattle.input_port.proofs.Keeping.{kept_drain, kept_drain_since}
use Rattle.input_port.proofs.held.Held.drain.Goals as goal

pub invariant_of-self : goal.invariant_of-self
invariant_of-self g c = (
  c.drain.ensures.port ∙ c.self.invariant.0,
  ap (λ p. p.alive) c.drain.ensures.drawn.1.state ∙ c.self.invariant.1,
  kept_drain_since _ _ _ _ c.drain.ensures.drawn c.self.invariant.2,
)

pub invariant_of-self-2 : goal.invariant_of-self-2
invariant_of-self-2 g c = (
  c.drain-2.ensures.port ∙ c.self.invariant.0,
  drawn-alive _ _ _ c.drain-2.ensures.drawn.1 ∙ c.self.invariant.1,
  kept_drain _ _ c.drain-2.ensures.drawn (c.self.invariant.1 ∙ ap not c.if-self.false) c.self.invariant.2,
)
