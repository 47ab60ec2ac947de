-- Each instance is told: a lemma says so.
use Rattle.serial_order.proofs.Histories.{each_is_told}
use Rattle.serial_order.proofs.laws.each_is_told.Goals as goal

pub returns : goal.returns
returns c = each_is_told
