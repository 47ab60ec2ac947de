use Rattle.std.proofs.Common.{rules}
use Rattle.input_port.proofs.QueueKeeping.{drawn_one, owner_on, signals_one}
use Rattle.input_port.proofs.queue.receiver.Receiver.take_next.Goals as goal

pub invariant_of-self-2 : goal.invariant_of-self-2
invariant_of-self-2 g c = (
  owner_on c.self.inside.pass.me.view.client _ _ c.in-Some.placed _ _ _ c.is_empty.ensures.same c.in-Some.ensures.popped
      c.self.invariant.0 (signals_one c.in-Some.placed c.signals.result c.signals.ensures.count),
  search rules,
  search rules,
  c.note_put.ensures c.self.inside.pass.me.view.client.drawn _
      (drawn_one _ _ _ c.in-Some.placed c.is_empty.ensures.same c.in-Some.ensures.popped) c.self.invariant.3,
)
