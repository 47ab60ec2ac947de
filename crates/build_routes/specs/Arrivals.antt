-- Whom 64 signals from a source reach, as the masks of nodes tell it.
use Rattle.std.specs.Prelude.{◌≡◌, ◌<◌, ◌/◌, ◌%◌, ◌↔◌, ℕ, Bool, List}
use Rattle.port_model.specs.declared.values.item.SignalId.{SignalId}
use Rattle.sdl_system.specs.declared.id.ProcessId.{ProcessId}
use Rattle.build_routes.specs.Graph.{Leads}
use Rattle.build_routes.specs.Mask.{Has}
use Rattle.build_routes.specs.Nodes.{number}
use Rattle.build_routes.specs.Paths.{Path}
use Rattle.build_routes.specs.Reached.{AreFlags}
use Rattle.build_routes.specs.Steps.{AllSteps}
use Rattle.build_routes.specs.declared.arrivals.Arrivals.{Arrivals}
use Rattle.build_routes.specs.declared.network.graph.Row.{Row}
use Rattle.build_routes.specs.declared.network.graph.Step.{Step}
use Rattle.build_routes.specs.declared.network.joined.End.TheVariants as at
use Rattle.build_routes.specs.declared.network.joined.Network.{Network}
use Rattle.build_routes.specs.declared.network.joined.Source.{Source}
use Rattle.build_routes.specs.declared.graph.node.Node.TheVariants as nodes

-- the signal at this place of the 64 reaches the process
abbrev pub ArrivesAt : Arrivals → ℕ → ProcessId → Type 0
ArrivesAt arrivals place process = Has arrivals.masks.items (number (nodes.Process process)) place

abbrev pub ReachesProcess : Arrivals → ProcessId → SignalId → Type 0
ReachesProcess arrivals process signal = ArrivesAt arrivals (signal.0 % 64) process

abbrev pub ReachesEnv : Arrivals → SignalId → Type 0
ReachesEnv arrivals signal = Has arrivals.masks.items (number nodes.Env) (signal.0 % 64)

-- the graph has just the steps of a signal from the source
pub record IsGraph (network : Network) (source : Source) (rows : List Row) : Type 0 where
  pub flags : List Bool
  pub are : AreFlags network flags
  pub leads : (n : ℕ) (step : Step) → Leads rows n step ↔ AllSteps network flags source n step

-- it tells to whom paths lead the 64 signals of this number from the source
pub record Tells (network : Network) (source : Source) (word : ℕ) (arrivals : Arrivals) : Type 0 where
  pub processes : (p : ProcessId) (signal : SignalId) → signal.0 < network.signals → signal.0 / 64 ≡ word
      → ReachesProcess arrivals p signal ↔ Path network signal source (at.Process p)
  pub env : (signal : SignalId) → signal.0 < network.signals → signal.0 / 64 ≡ word
      → ReachesEnv arrivals signal ↔ Path network signal source at.Env
