use Rattle.std.proofs.Common.{◌≡◌, [], length, map, replicate}
use Rattle.run_order.proofs.replay.Replay.new.Given as goal
use Rattle.run_order.specs.OrderState.{fresh}
use Rattle.run_order.specs.Roster.{all_entered}

abbrev pub invariant-loop-instance : goal.invariant-loop-instance
invariant-loop-instance l = record {
  members : l.members.items ≡ map fresh l.yielded;
  roster : l.roster ≡ all_entered (replicate (length l.system.processes) []) l.yielded;
}
