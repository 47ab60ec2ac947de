-- Laws of paths.
use Rattle.std.specs.Prelude.{◌≡◌, ℕ, ◌<◌, Some, slice_get}
use Rattle.std.specs.List.{Contains}
use Rattle.port_model.specs.declared.values.item.SignalId.{SignalId}
use Rattle.sdl_system.specs.Route.{receivers}
use Rattle.sdl_system.specs.declared.id.ProcessId.{ProcessId}
use Rattle.sdl_system.specs.declared.route.Routes.{Routes}
use Rattle.sdl_system.specs.declared.route.Source.TheVariants as from
use Rattle.build_routes.specs.Paths.{IsSource, Path}
use Rattle.build_routes.specs.SignalLists.{StandsFor}
use Rattle.build_routes.specs.Table.{AreRoutes}
use Rattle.build_routes.specs.declared.network.joined.ChannelPath.{ChannelPath}
use Rattle.build_routes.specs.declared.network.joined.Network.{Network}
use Rattle.build_routes.specs.declared.network.joined.Process.{Process}
use Rattle.build_routes.specs.declared.network.joined.Source.{Source}

-- some channel of the text carries the signal
pub record IsCarried (network : Network) (signal : SignalId) : Type 0 where
  pub number : ℕ
  pub path : ChannelPath
  pub stands : slice_get network.paths.items number ≡ Some path
  pub carries : StandsFor network.lists.items signal path.signals

-- A signal comes back to its sender only where a channel of the text carries it: implied channels alone lead from no agent back to
-- itself, and from the environment not back to it.
abbrev pub ReturnsByChannels : Type 0
ReturnsByChannels = (network : Network) (signal : SignalId) (source : Source) → IsSource network source → Path network signal source source.end
    → IsCarried network signal

-- So the table has no process as a receiver of its own signal where no channel of the text carries it.
abbrev pub NoneReceivesItsOwn : Type 0
NoneReceivesItsOwn = (network : Network) (routes : Routes) (signal : SignalId) (process : ProcessId) (is : Process) → AreRoutes network routes
    → slice_get network.processes.items process.0 ≡ Some is → signal.0 < network.signals → (IsCarried network signal → ⊥)
    → Contains (receivers routes (from.Process process) signal) process → ⊥
