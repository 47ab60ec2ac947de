-- When the names that are seen at a place lack nothing: each has its sort, and each synonym its value.
use Rattle.std.specs.Prelude.{◌≡◌, ℕ, true, List, [], ◌∷◌, Option, None, Some}
use Rattle.port_model.specs.declared.values.item.SignalId.{SignalId}
use Rattle.build_statements.specs.Contexts.{Context, duration_of}
use Rattle.build_expressions.specs.Scope.{AgentMeaning, Scope, SignalMeaning, agent_in, block, process, signal, signal_in, timer, value_in}
use Rattle.build_expressions.specs.declared.scope.Constant.{Constant}
use Rattle.build_expressions.specs.declared.scope.Constant.TheVariants as constants
use Rattle.build_expressions.specs.declared.scope.ValueMeaning.{ValueMeaning}
use Rattle.build_expressions.specs.declared.scope.ValueMeaning.TheVariants as meant
use Rattle.sdl_system.specs.declared.sort.Sort.{Sort}

abbrev pub IsThere : {T : Type 0} → Option T → Type 0
IsThere None = ⊥
IsThere (Some it) = Unit {0}

abbrev pub AreThere : {T : Type 0} → List (Option T) → Type 0
AreThere [] = Unit {0}
AreThere (one ∷ rest) = IsThere one × AreThere rest

abbrev pub HasValue : Constant → Type 0
HasValue (constants.Value value) = Unit {0}
HasValue constants.NoValue = ⊥
HasValue constants.Refused = ⊥

abbrev pub IsCompleteValue : ValueMeaning → Type 0
IsCompleteValue (meant.Variable number sort) = IsThere sort
IsCompleteValue (meant.Synonym sort value) = IsThere sort × HasValue value

abbrev pub IsCompleteSignal : SignalMeaning → Type 0
IsCompleteSignal (signal number sorts) = AreThere sorts
IsCompleteSignal (timer number sorts has_default) = AreThere sorts

abbrev pub IsCompleteAgent : AgentMeaning → Type 0
IsCompleteAgent (process number sorts) = AreThere sorts
IsCompleteAgent block = Unit {0}

-- Each name that is seen has its sorts, and each synonym its value.
pub record IsComplete (scope : Scope) : Type 0 where
  pub values : (text : List ℕ) (meaning : ValueMeaning) → value_in scope text ≡ Some meaning → IsCompleteValue meaning
  pub signals : (text : List ℕ) (meaning : SignalMeaning) → signal_in scope text ≡ Some meaning → IsCompleteSignal meaning
  pub agents : (text : List ℕ) (meaning : AgentMeaning) → agent_in scope text ≡ Some meaning → IsCompleteAgent meaning

-- Each timer that has a default duration has it by its number.
abbrev pub HasDurations : Context → Type 0
HasDurations context =
    (text : List ℕ) (number : SignalId) (sorts : List (Option Sort))
    → signal_in context.scope text ≡ Some (timer number sorts true) → IsThere (duration_of context number)
