-- The lines are heard: a lemma says so.
use Rattle.serial_order.proofs.Scripts.{lines_are_heard}
use Rattle.serial_order.proofs.laws.lines_are_heard.Goals as goal

pub returns : goal.returns
returns c = lines_are_heard
