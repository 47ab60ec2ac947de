use Rattle.std.proofs.Common.{ap}
use Rattle.serial_sweeps.specs.Marks.{numbers_in}
use Rattle.serial_sweeps.proofs.ready_set.ReadySet.new.Goals as goal

pub returns : goal.returns
returns c = ap (λ words. numbers_in words) c.new.ensures.items
