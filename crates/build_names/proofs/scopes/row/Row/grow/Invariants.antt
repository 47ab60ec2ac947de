use Rattle.std.proofs.Common.{◌≡◌, ℕ, ◌≤◌, length}
use Rattle.build_names.specs.Spaces.{names_at}
use Rattle.build_names.proofs.scopes.row.Row.grow.Given as goal

abbrev pub invariant-loop : goal.invariant-loop
invariant-loop g l = record {
  grown : l.counter ≤ length l.self.names.items;
  same : (other : ℕ) → names_at l.self other ≡ names_at l.initial.self other;
}
