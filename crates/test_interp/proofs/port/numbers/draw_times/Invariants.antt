use Rattle.std.proofs.Common.{◌≡◌}
use Rattle.test_interp.proofs.port.numbers.draw_times.Given as goal

abbrev pub invariant-loop : goal.invariant-loop
invariant-loop l = l.hand.seat.table ≡ l.table.id
