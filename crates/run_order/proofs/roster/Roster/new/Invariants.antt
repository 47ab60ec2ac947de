use Rattle.std.proofs.Common.{◌≡◌, [], replicate}
use Rattle.run_order.proofs.roster.Roster.new.Given as goal

abbrev pub invariant-loop : goal.invariant-loop
invariant-loop l = l.roster ≡ replicate l.counter []
