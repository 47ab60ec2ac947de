use Rattle.input_port.proofs.Moves.{pushes}
use Rattle.input_port.proofs.queue.steps.push.Goals as goal

pub push_as-requires-clause-rule : goal.push_as-requires-clause-rule
push_as-requires-clause-rule g c = λ n. pushes n _ _ _ c.requires.rights c.requires.number c.requires.count c.requires.timely
