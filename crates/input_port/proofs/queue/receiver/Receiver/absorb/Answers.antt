use Rattle.std.proofs.Common.{rules}
use Rattle.input_port.proofs.QueueKeeping.{owner_gathers}
use Rattle.input_port.proofs.queue.receiver.Receiver.absorb.Goals as goal

pub invariant_of-self : goal.invariant_of-self
invariant_of-self g c = (
  owner_gathers _ _ _ _ _ _ _ c.take_in-popped.ensures.taken c.self.invariant.0 c.signals_in.ensures.count,
  search rules,
  search rules,
  c.note_popped.ensures c.self.inside.pass.me.view.client.drawn _ c.take_in-popped.ensures.taken.drawn
      c.self.invariant.3,
)
