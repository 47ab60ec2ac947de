-- What the names in a transition stand for.
use Rattle.std.specs.Prelude.{ℕ, ℤ, Bool, false, List, Option, None, slice_get}
use Rattle.std.specs.Option.{unwrap_or}
use Rattle.port_model.specs.declared.values.item.SignalId.{SignalId}
use Rattle.build_statements.specs.declared.context.Context as declared
use Rattle.build_names.specs.Names.{first_of}
use Rattle.build_expressions.specs.Scope.{Scope, scope_of}
use Rattle.sdl_system.specs.declared.id.LabelId.{LabelId}
use Rattle.sdl_system.specs.declared.id.StateId.{StateId}

pub record Context : Type 0 where
  -- variables and synonyms, signals and timers, processes and blocks
  pub scope : Scope
  -- the states and the labels of the process
  pub states : List (List ℕ × StateId)
  pub labels : List (List ℕ × LabelId)
  -- whether a path leads a signal to a receiver, by the signal's number
  pub reaches : List Bool
  -- the default duration of a timer, by the timer's number
  pub durations : List (Option ℤ)

abbrev pub context_of : declared.Context → Context
context_of context = record {
  scope = scope_of context.scope;
  states = context.states.now;
  labels = context.labels.now;
  reaches = context.reaches.now;
  durations = context.durations.now;
}

abbrev pub state_in : Context → List ℕ → Option StateId
state_in context text = first_of context.states text

abbrev pub label_in : Context → List ℕ → Option LabelId
label_in context text = first_of context.labels text

-- whether a path leads the signal to a receiver, where its output has no destination
abbrev pub is_reaching : Context → SignalId → Bool
is_reaching context signal = unwrap_or (slice_get context.reaches signal.0) false

abbrev pub duration_of : Context → SignalId → Option ℤ
duration_of context timer = unwrap_or (slice_get context.durations timer.0) None
