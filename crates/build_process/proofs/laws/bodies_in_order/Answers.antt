use Rattle.build_process.proofs.OrderLemmas.{parts-in-order, stimuli-in-order}
use Rattle.build_process.proofs.laws.bodies_in_order.Goals as goal

pub returns-clause-parts : goal.returns-clause-parts
returns-clause-parts c = parts-in-order

pub returns-clause-stimuli : goal.returns-clause-stimuli
returns-clause-stimuli c = stimuli-in-order
