-- Each time is the clock's: a lemma says so.
use Rattle.serial_order.proofs.Clocks.{each_reads_the_clock}
use Rattle.serial_order.proofs.laws.each_reads_the_clock.Goals as goal

pub returns : goal.returns
returns c = each_reads_the_clock
