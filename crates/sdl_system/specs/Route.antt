-- Where a signal goes (Z.101: channel; Z.102: output), by the places to which paths lead it.
use Rattle.std.specs.Prelude.{◌==◌, ◌||◌, ℕ, not, Bool, true, false, List, [], ◌∷◌, Option, None, Some, filter, option_and_then, slice_get, unwrap_or, if◌then◌else◌}
use Rattle.std.specs.Option.{option_map_or}
use Rattle.port_model.specs.declared.values.item.SignalId.{SignalId}
use Rattle.port_model.specs.declared.values.pid.Pid as pid
use Rattle.port_model.specs.declared.values.pid.Pid.TheVariants as who
use Rattle.sdl_system.specs.declared.id.ProcessId.{ProcessId}
use Rattle.sdl_system.specs.declared.route.Dest as dest
use Rattle.sdl_system.specs.declared.route.Dest.TheVariants as to
use Rattle.sdl_system.specs.declared.route.Reach.{Reach}
use Rattle.sdl_system.specs.declared.route.Routes.{Routes}
use Rattle.sdl_system.specs.declared.route.Source as source
use Rattle.sdl_system.specs.declared.route.Source.TheVariants as from
use Rattle.sdl_system.specs.declared.route.Target.{Target}
use Rattle.sdl_system.specs.declared.route.Target.TheVariants as target

-- ---- what is kept

-- where paths lead a signal from a source
abbrev pub reach_of : Routes → source.Source → SignalId → Option Reach
reach_of routes from.Env signal = slice_get routes.env.items signal.0
reach_of routes (from.Process own) signal =
    option_and_then (λ row. slice_get row.items signal.0) (slice_get routes.processes.items own.0)

abbrev pub list_of : Routes → Reach → List ProcessId
list_of routes reach = option_map_or (λ list. list.items) (slice_get routes.lists.items reach.receivers.0) []

-- whether a process of the list gets what the source sends: all but itself do, and it does where that is said
abbrev pub is_receiver : Bool → source.Source → ProcessId → Bool
is_receiver itself from.Env process = true
is_receiver itself (from.Process own) process = itself || not (own.0 == process.0)

-- ---- paths

-- the processes to which a path leads the signal, in the order of the text
abbrev pub receivers : Routes → source.Source → SignalId → List ProcessId
receivers routes from signal =
    option_map_or (λ reach. filter (is_receiver reach.itself from) (list_of routes reach))
    (reach_of routes from signal) []

-- whether a path leads it to the environment
abbrev pub reaches_env : Routes → source.Source → SignalId → Bool
reaches_env routes from signal = option_map_or (λ reach. reach.env) (reach_of routes from signal) false

-- whether a path leads it to a process
abbrev pub is_any : List ProcessId → Bool
is_any [] = false
is_any (process ∷ rest) = true

abbrev pub reaches_process : Routes → SignalId → source.Source → Bool
reaches_process routes signal from = is_any (receivers routes from signal)

-- ---- targets

-- the least living instance of a process
abbrev pub living_in : List (Option ℕ) → ProcessId → Option ℕ
living_in living process = unwrap_or (slice_get living process.0) None

-- that of the first of these processes that has one
abbrev pub or_later : Option ℕ → Option ℕ → Option ℕ
or_later (Some instance) later = Some instance
or_later None later = later

abbrev pub first_living : List (Option ℕ) → List ProcessId → Option ℕ
first_living living [] = None
first_living living (process ∷ rest) = or_later (living_in living process) (first_living living rest)

-- a Pid is its own target
abbrev pub pid_target : pid.Pid → Target
pid_target who.Null = target.Null
pid_target who.Env = target.Env
pid_target (who.Of number) = target.Instance number

abbrev pub instance_or : Option ℕ → Target → Target
instance_or (Some instance) other = target.Instance instance
instance_or None other = other

-- The target of a signal. To a process: its least living instance. Without a destination: that of the first process
-- that has one among those to which a path leads; else the environment if a path leads there; else nobody.
abbrev pub target_in : Routes → SignalId → source.Source → dest.Dest → List (Option ℕ) → Target
target_in routes signal from (to.Pid pid) living = pid_target pid
target_in routes signal from (to.Process process) living = instance_or (living_in living process) target.Nobody
target_in routes signal from to.Path living =
    instance_or (first_living living (receivers routes from signal))
    (if reaches_env routes from signal then target.Env else target.Nobody)
