use Rattle.std.proofs.Common.{◌≡◌, ℕ, ◌<◌, ◌+◌, ◌*◌, ◌↔◌, length}
use Rattle.build_routes.specs.Mask.{Has}
use Rattle.build_routes.specs.SignalLists.{StandsFor, column}
use Rattle.build_routes.proofs.network.signal_sets.SignalSets.of_lists.Given as goal

abbrev pub invariant-loop-word : goal.invariant-loop-word
invariant-loop-word l = record {
  size : length l.columns.items ≡ l.word;
  each : (n list k : ℕ) → n < l.word → k < 64
      → Has (column l.columns.items n) list k ↔ StandsFor l.lists (record { 0 = 64 * n + k }) (record { 0 = list });
}
