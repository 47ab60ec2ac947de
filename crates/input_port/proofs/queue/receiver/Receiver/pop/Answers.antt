use Rattle.std.proofs.Common.{rules}
use Rattle.input_port.proofs.QueueKeeping.{drawn_by, owner_after}
use Rattle.input_port.proofs.queue.receiver.Receiver.pop.Goals as goal

pub invariant_of-self : goal.invariant_of-self
invariant_of-self g c = (
  owner_after _ _ c.pop-popped.result _ _ _ c.pop-popped.ensures.popped c.self.invariant.0 c.signals_in.ensures.count,
  search rules,
  search rules,
  c.note_popped.ensures c.self.inside.pass.me.view.client.drawn _
      (drawn_by _ _ c.pop-popped.result c.pop-popped.ensures.popped) c.self.invariant.3,
)
