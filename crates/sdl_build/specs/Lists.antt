-- The signals that signal lists stand for, also through lists within them (Z.101: signal list).
use Rattle.std.specs.Prelude.{◌≡◌, ◌<◌, ◌↔◌, ℕ, List, Some, length, slice_get}
use Rattle.std.specs.List.{Contains}
use Rattle.port_model.specs.declared.values.item.SignalId.{SignalId}
use Rattle.build_routes.specs.SignalLists.{StandsFor}
use Rattle.build_routes.specs.declared.network.list.ListId.{ListId}
use Rattle.build_routes.specs.declared.network.joined.Network.{Network}

-- just the signals of the network for which the list stands
abbrev pub AreSignalsOf : Network → ListId → List SignalId → Type 0
AreSignalsOf network list signals =
    (signal : SignalId)
    → Contains signals signal ↔ ((signal.0 < network.signals) × StandsFor network.lists.items signal list)

-- those of each of the first so many lists
pub record AreMembers (network : Network) (count : ℕ) (members : List (List SignalId)) : Type 0 where
  pub size : length members ≡ count
  pub each : (list : ListId) (signals : List SignalId) → slice_get members list.0 ≡ Some signals
      → AreSignalsOf network list signals
