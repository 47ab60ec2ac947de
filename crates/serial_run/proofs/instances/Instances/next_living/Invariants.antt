use Rattle.std.proofs.Common.{◌≡◌, ◌+◌, drop}
use Rattle.serial_order.specs.RunState.{least_living}
use Rattle.serial_run.proofs.instances.Instances.next_living.Given as goal

abbrev pub invariant-loop-instance : goal.invariant-loop-instance
invariant-loop-instance l =
    least_living (drop (l.place + l.instance-index) l.self.instances.items) l.process.0
    ≡ least_living (drop l.place l.self.instances.items) l.process.0
