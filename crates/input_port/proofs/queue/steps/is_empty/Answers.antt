use Rattle.input_port.proofs.Moves.{learns}
use Rattle.input_port.proofs.queue.steps.is_empty.Goals as goal

pub is_empty_as-requires-clause-rule : goal.is_empty_as-requires-clause-rule
is_empty_as-requires-clause-rule c = learns _ _ c.requires.rights
