use Rattle.std.proofs.Common.{false}
use Rattle.std.specs.List.{AllZip}
use Rattle.sdl_interp.specs.Instance.{IsClosed}
use Rattle.serial_run.proofs.instances.Instances.close.Given as goal

abbrev pub invariant-loop-instance : goal.invariant-loop-instance
invariant-loop-instance l = AllZip (IsClosed false l.whole) l.yielded l.records.items
