-- Valid input sets (Z.101: valid input signal set).
use Rattle.std.specs.Prelude.{◌≡◌, ◌<◌, ◌↔◌, ℕ, Bool, true, List, Some, length, slice_get}
use Rattle.port_model.specs.declared.values.item.SignalId.{SignalId}
use Rattle.sdl_system.specs.Signal.{is_member}
use Rattle.sdl_system.specs.declared.id.ProcessId.{ProcessId}
use Rattle.build_routes.specs.Each.{ForSome}
use Rattle.build_routes.specs.SignalLists.{StandsFor}
use Rattle.build_routes.specs.declared.network.list.ListId.{ListId}
use Rattle.build_routes.specs.declared.network.joined.ChannelPath.{ChannelPath}
use Rattle.build_routes.specs.declared.network.joined.End.TheVariants as at
use Rattle.build_routes.specs.declared.network.joined.Network.{Network}
use Rattle.build_routes.specs.declared.network.joined.Process.{Process}

-- the path leads to the process, in its scope
abbrev pub IsHeard : ProcessId → Process → ChannelPath → Type 0
IsHeard process is path = (path.scope ≡ is.scope) × (path.to ≡ at.Process process)

-- what is on a path that leads to the process is on this list
abbrev pub IsHeardFrom : ProcessId → Process → List ChannelPath → ListId → Type 0
IsHeardFrom process is paths list = ForSome paths (λ n path. IsHeard process is path × (path.signals ≡ list))

-- the signal is in the valid input set of the process: a channel carries it to the process, or the process names it in an input,
-- a save or its signalset, or it is a timer of the process
pub data IsValid (network : Network) (process : ProcessId) (is : Process) (signal : SignalId) : Type 0 where
  carried : (n : ℕ) (path : ChannelPath) → slice_get network.paths.items n ≡ Some path → IsHeard process is path
      → StandsFor network.lists.items signal path.signals → IsValid network process is signal
  named : StandsFor network.lists.items signal is.named → IsValid network process is signal
  timer : StandsFor network.lists.items signal is.timers → IsValid network process is signal

-- the sets are those of the first so many processes, each with a place for each signal
pub record AreValid (network : Network) (count : ℕ) (valid : List (List Bool)) : Type 0 where
  pub size : length valid ≡ count
  pub places : (process : ProcessId) (set : List Bool) → slice_get valid process.0 ≡ Some set
      → length set ≡ network.signals
  pub each : (process : ProcessId) (is : Process) (set : List Bool) (signal : SignalId) → slice_get network.processes.items process.0 ≡ Some is
      → slice_get valid process.0 ≡ Some set → signal.0 < network.signals
      → (is_member set signal ≡ true) ↔ IsValid network process is signal
