use Rattle.std.proofs.Common.{◌≡◌, ℕ, ◌<◌, ◌↔◌, length, get_or, true, false}
use Rattle.build_routes.specs.Paths.{IsNamed}
use Rattle.build_routes.proofs.named.named_flags.Given as goal

abbrev pub invariant-loop-number : goal.invariant-loop-number
invariant-loop-number l = record {
  size : length l.flags.items ≡ l.number;
  each : (n : ℕ) → n < l.number → (get_or l.flags.items n false ≡ true) ↔ IsNamed l.network n;
}
