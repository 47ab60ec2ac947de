use Rattle.std.proofs.Common.{ℕ, ◌↔◌}
use Rattle.build_routes.specs.Each.{ForSomeBelow}
use Rattle.build_routes.specs.Mask.{Bit}
use Rattle.build_routes.specs.SignalLists.{IsSignalAt}
use Rattle.build_routes.proofs.network.signal_sets.own_mask.Given as goal

abbrev pub invariant-loop-entry : goal.invariant-loop-entry
invariant-loop-entry l = (k : ℕ) → Bit l.mask k ↔ ForSomeBelow l.entries l.entry-index (λ j entry. IsSignalAt l.word k entry)
