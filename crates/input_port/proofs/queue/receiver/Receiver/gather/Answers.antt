use Rattle.std.proofs.Common.{rules}
use Rattle.input_port.specs.QueueCalls.{popped_list}
use Rattle.input_port.proofs.QueueKeeping.{owner_gathers}
use Rattle.input_port.proofs.queue.receiver.Receiver.gather.Goals as goal

pub returns-clause-gather : goal.returns-clause-gather
returns-clause-gather g c = (popped_list c.take_in-popped.result, search rules)

pub invariant_of-self-2 : goal.invariant_of-self-2
invariant_of-self-2 g c = (
  owner_gathers _ _ _ _ _ _ _ c.take_in-popped.ensures.taken c.self.invariant.0 c.signals_in.ensures.count,
  search rules,
  search rules,
  c.note_popped.ensures c.self.inside.pass.me.view.client.drawn _ c.take_in-popped.ensures.taken.drawn
      c.self.invariant.3,
)
