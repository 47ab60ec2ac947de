use Rattle.std.proofs.Common.{◌≡◌, ◌≤◌}
use Rattle.test_interp.proofs.port.numbers.count_splits.Given as goal

abbrev pub invariant-loop : goal.invariant-loop
invariant-loop l = (l.seat.table ≡ l.table.id) × (l.made ≤ l.counter)
