use Rattle.std.proofs.Common.{◌≡◌, ℕ, ◌<◌, ◌↔◌, length}
use Rattle.build_routes.specs.Mask.{Has}
use Rattle.build_routes.specs.SignalLists.{NamesIn}
use Rattle.build_routes.proofs.network.signal_sets.own_masks.Given as goal

abbrev pub invariant-loop-list : goal.invariant-loop-list
invariant-loop-list l = record {
  size : length l.masks.items ≡ l.list-index;
  each : (list k : ℕ) → list < l.list-index → Has l.masks.items list k ↔ NamesIn l.lists l.word list k;
}
