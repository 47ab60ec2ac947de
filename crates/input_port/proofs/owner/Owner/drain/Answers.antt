use Rattle.std.proofs.Common.{◌∙◌}
use Rattle.input_port.proofs.Drawing.{drawn-alive}
use Rattle.input_port.proofs.owner.Owner.drain.Goals as goal

pub invariant_of-self : goal.invariant_of-self
invariant_of-self g c = drawn-alive _ _ _ c.drain-drawn.ensures.drawn.1 ∙ c.self.invariant

pub returns-clause-alive : goal.returns-clause-alive
returns-clause-alive g c = drawn-alive _ _ _ c.drain-drawn.ensures.drawn.1 ∙ c.self.invariant
