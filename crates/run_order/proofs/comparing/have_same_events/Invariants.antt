use Rattle.std.proofs.Common.{◌≡◌}
use Rattle.std.specs.Prelude.{◌↔◌}
use Rattle.run_order.proofs.comparing.have_same_events.Given as goal

-- what is left is the same if all is, and only then
abbrev pub invariant-loop-told : goal.invariant-loop-told
invariant-loop-told l = (l.rest ≡ l.told-iterator) ↔ (l.left.events ≡ l.right.events)
