use Rattle.std.proofs.Common.{◌≡◌, ◌<◌, ℕ, Some, length, slice_get}
use Rattle.sdl_system.specs.declared.route.ReceiversId.{ReceiversId}
use Rattle.build_routes.specs.Entries.{Keeps, listed_at}
use Rattle.build_routes.proofs.known.numbered.Given as goal

abbrev pub invariant-loop-place : goal.invariant-loop-place
invariant-loop-place l = record {
  kept : Keeps l.fn.lists l.lists;
  size : length l.numbers.items ≡ l.place;
  each : (place : ℕ) → place < l.place
      → (number : ReceiversId) × (slice_get l.numbers.items place ≡ Some number) × (slice_get l.lists number.0 ≡ Some (listed_at place l.receivers));
}
