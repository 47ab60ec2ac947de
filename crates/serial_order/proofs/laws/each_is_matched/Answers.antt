-- Each signal is matched: a lemma says so.
use Rattle.serial_order.proofs.Matching.{each_is_matched}
use Rattle.serial_order.proofs.laws.each_is_matched.Goals as goal

pub returns : goal.returns
returns c = each_is_matched
