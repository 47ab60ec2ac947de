-- The signals and timers of a system (Z.101: signal; Z.102: timer).
use Rattle.std.specs.Prelude.{ℕ, ℤ, List, [], ◌∷◌, Option, None, Some, flat_map, string_bytes}
use Rattle.build_definitions.specs.Rows.{OrdinarySignal, OrdinaryTimer, SignalKind, SignalRow}
use Rattle.build_names.specs.declared.scopes.scope.ScopeId.{ScopeId}
use Rattle.build_names.specs.declared.scopes.scope.ScopeId.TheVariants as scope
use Rattle.sdl_system.specs.declared.signal.Signal as symbols
use Rattle.sdl_system.specs.declared.signal.Timer.{Timer}
use Rattle.sdl_system.specs.declared.sort.Sort.{Sort}

-- a signal, with the sorts of its values, and for a timer what it has besides
pub record Signal : Type 0 where
  pub name : List ℕ
  pub sorts : List Sort
  pub timer : Option Timer

abbrev pub signal_of : symbols.Signal → Signal
signal_of signal =
    record { name = string_bytes signal.name; sorts = signal.sorts.items; timer = signal.timer }

-- a sort where it is one
abbrev pub known_sort : Option Sort → List Sort
known_sort None = []
known_sort (Some sort) = sort ∷ []

-- timers stand in processes
abbrev pub timer_at : ScopeId → Option ℤ → Option Timer
timer_at scope.System default = None
timer_at (scope.Block number) default = None
timer_at (scope.Process number) default = Some (record { process = number; default = default })

abbrev pub timer_of : ScopeId → SignalKind → Option ℤ → Option Timer
timer_of place OrdinarySignal default = None
timer_of place (OrdinaryTimer duration) default = timer_at place default

abbrev pub signal_from : SignalRow → Option ℤ → Signal
signal_from row default = record {
  name = row.name.text;
  sorts = flat_map known_sort row.sorts;
  timer = timer_of row.scope row.kind default;
}

-- those of these rows, with their default durations
abbrev pub signals_from : List SignalRow → List (Option ℤ) → List Signal
signals_from [] durations = []
signals_from (row ∷ rows) [] = []
signals_from (row ∷ rows) (duration ∷ durations) = signal_from row duration ∷ signals_from rows durations
