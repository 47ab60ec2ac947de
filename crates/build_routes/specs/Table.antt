-- What the table of routes tells.
use Rattle.std.specs.Prelude.{◌≡◌, ◌<◌, ◌↔◌, ℕ, true, List, [], ◌∷◌, Some, length, map, slice_get}
use Rattle.std.specs.List.{Contains}
use Rattle.port_model.specs.declared.values.item.SignalId.{SignalId}
use Rattle.sdl_system.specs.Route.{reaches_env, receivers}
use Rattle.sdl_system.specs.declared.id.ProcessId.{ProcessId}
use Rattle.sdl_system.specs.declared.route.Routes.{Routes}
use Rattle.sdl_system.specs.declared.route.Source as sender
use Rattle.sdl_system.specs.declared.route.Source.TheVariants as from
use Rattle.build_routes.specs.Paths.{Path}
use Rattle.build_routes.specs.declared.network.joined.End.TheVariants as at
use Rattle.build_routes.specs.declared.network.joined.Network.{Network}
use Rattle.build_routes.specs.declared.network.joined.Process.{Process}
use Rattle.build_routes.specs.declared.network.joined.Scope.TheVariants as its
use Rattle.build_routes.specs.declared.network.joined.Source.{Source}

-- where in the network the sender's signals come from
abbrev pub SendsFrom : Network → sender.Source → Source → Type 0
SendsFrom network from.Env source = source ≡ record { end = at.Env; scope = its.System }
SendsFrom network (from.Process process) source =
    (is : Process) × (slice_get network.processes.items process.0 ≡ Some is) × (source ≡ record { end = at.Process process; scope = is.scope })

-- each process stands in the text behind those before it in the list
abbrev pub IsAscending : List ProcessId → Type 0
IsAscending [] = Unit {0}
IsAscending (process ∷ rest) = ((other : ProcessId) → Contains rest other → process.0 < other.0) × IsAscending rest

-- the list has just the processes to which a path leads the signal, in the order of the text
pub record AreReceivers (network : Network) (signal : SignalId) (source : Source) (list : List ProcessId) : Type 0 where
  pub reached : (process : ProcessId)
      → Contains list process ↔ ((process.0 < length network.processes.items) × Path network signal source (at.Process process))
  pub ordered : IsAscending list

-- each list of receivers that is kept
abbrev pub lists_in : Routes → List (List ProcessId)
lists_in routes = map (λ list. list.items) routes.lists.items

-- no list stands twice
abbrev pub AreDistinct : List (List ProcessId) → Type 0
AreDistinct lists = (i j : ℕ) (list : List ProcessId) → slice_get lists i ≡ Some list → slice_get lists j ≡ Some list → i ≡ j

-- The table tells, for each sender and each signal, just the processes to which paths lead the signal from it, and whether one
-- leads to the environment. Senders and signals share their lists of receivers.
pub record AreRoutes (network : Network) (routes : Routes) : Type 0 where
  pub processes : (from : sender.Source) (source : Source) (signal : SignalId) → SendsFrom network from source → signal.0 < network.signals
      → AreReceivers network signal source (receivers routes from signal)
  pub env : (from : sender.Source) (source : Source) (signal : SignalId) → SendsFrom network from source → signal.0 < network.signals
      → (reaches_env routes from signal ≡ true) ↔ Path network signal source at.Env
  pub shared : AreDistinct (lists_in routes)
