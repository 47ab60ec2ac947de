use Rattle.std.proofs.Common.{◌≡◌, Some, map}
use Rattle.build_process.proofs.condition.whole.Given as goal

abbrev pub invariant-loop-condition : goal.invariant-loop-condition
invariant-loop-condition l = map Some l.list.items ≡ l.yielded
