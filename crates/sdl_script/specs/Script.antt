-- Scripts for a system: lines at times that never fall, with signals that the environment can send.
use Rattle.std.specs.Prelude.{◌≡◌, ℕ, true, ◌-◌, ◌≤◌, List, Some, length, All, IfSome, IsSomeAnd, slice_get}
use Rattle.std.specs.List.{AllZip}
use Rattle.std.specs.List.Sorted.{IsNonDecreasingBy}
use Rattle.std.specs.Option.{option_map_or}
use Rattle.port_model.specs.declared.values.item.SignalId.{SignalId}
use Rattle.port_model.specs.declared.values.pid.Pid.TheVariants.{Env, Of}
use Rattle.port_model.specs.declared.values.value.Value.{Value}
use Rattle.sdl_system.specs.Route.{reaches_process}
use Rattle.sdl_system.specs.Sort.{has_sort}
use Rattle.sdl_system.specs.System.{SystemValue, meaning_of}
use Rattle.sdl_system.specs.declared.route.Dest as dest
use Rattle.sdl_system.specs.declared.route.Dest.TheVariants as to
use Rattle.sdl_system.specs.declared.route.Source.TheVariants as from
use Rattle.sdl_system.specs.declared.sort.Sort.{Sort}
use Rattle.sdl_script.specs.declared.script.ScriptLine.{ScriptLine}
use Rattle.sdl_script.specs.declared.script.ScriptSignal.{ScriptSignal}
use Rattle.sdl_script.specs.Spelling.{latest_time}

-- the time of the last line, 0 for none
abbrev pub end_of : List ScriptLine → ℕ
end_of lines = option_map_or (λ line. line.at) (slice_get lines (length lines - 1)) 0

-- a signal of the system's own scope
abbrev pub IsOwnSignal : SystemValue → SignalId → Type 0
IsOwnSignal system signal = (name : List ℕ) × (meaning_of system.own_signals name ≡ Some signal)

abbrev pub IsOfSort : Value → Sort → Type 0
IsOfSort value sort = has_sort sort value ≡ true

-- The environment may send the signal there: along a path, where one leads it to a process; to a process by its name;
-- or to any number.
abbrev pub MayGo : SystemValue → SignalId → dest.Dest → Type 0
MayGo system signal to.Path = reaches_process system.routes signal from.Env ≡ true
MayGo system signal (to.Process process) = (name : List ℕ) × (meaning_of system.process_names name ≡ Some process)
MayGo system signal (to.Pid pid) = (number : ℕ) × (pid ≡ Of number)

-- the environment may send the signal: it is one of the system's own, has a value for each parameter, of its sort, and
-- may go where it is sent
pub record IsFromEnv (system : SystemValue) (signal : ScriptSignal) : Type 0 where
  pub sender : signal.item.sender ≡ Env
  pub own : IsOwnSignal system signal.item.name
  pub values : IsSomeAnd (slice_get system.signals signal.item.name.0)
      (λ declared. AllZip IsOfSort signal.item.values declared.sorts.items)
  pub to : MayGo system signal.item.name signal.to

-- so it may with the signal of the line, if it has one
abbrev pub SendsFromEnv : SystemValue → ScriptLine → Type 0
SendsFromEnv system line = IfSome line.signal (IsFromEnv system)

-- the line may stand behind one of that time
pub record IsNext (system : SystemValue) (earliest : ℕ) (line : ScriptLine) : Type 0 where
  pub not_before : earliest ≤ line.at
  pub within : line.at ≤ latest_time
  pub from_env : SendsFromEnv system line

-- the lines are a script for the system: times never fall and keep the limit, and the environment may send each signal
pub record IsScript (system : SystemValue) (lines : List ScriptLine) : Type 0 where
  pub in_order : IsNonDecreasingBy (λ line. line.at) lines
  pub within : All (λ line. line.at ≤ latest_time) lines
  pub from_env : All (SendsFromEnv system) lines
