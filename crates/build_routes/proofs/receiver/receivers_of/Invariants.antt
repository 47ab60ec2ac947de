use Rattle.std.proofs.Common.{ℕ}
use Rattle.build_routes.specs.Entries.{IsListed, listed_at}
use Rattle.build_routes.proofs.receiver.receivers_of.Given as goal

abbrev pub invariant-loop-number : goal.invariant-loop-number
invariant-loop-number l = (place : ℕ) → IsListed l.arrivals place l.source l.number (listed_at place l.receivers.items)
