-- What a state selects, under what an instance knows (Z.101: state, input, save; Z.102: priority input, enabling
-- condition, continuous signal).
use Rattle.std.specs.Prelude.{◌≡◌, ℕ, Bool, true, false, List, [], ◌∷◌, Option, None, Some, Result, Ok, Err}
use Rattle.port_model.specs.Selection as selection
use Rattle.port_model.specs.declared.values.item.SignalId.{SignalId}
use Rattle.port_model.specs.declared.selection.Class.{Class}
use Rattle.port_model.specs.declared.selection.Class.TheVariants as class
use Rattle.run_record.specs.Environment.{Environment}
use Rattle.run_record.specs.Value.{truth_at}
use Rattle.run_record.specs.declared.failure.Failure.{Failure}
use Rattle.sdl_system.specs.Behaviour.{Behaviour, ContinuousSignal, Response, StateMeaning, input, priority_input, response_to, save}
use Rattle.sdl_system.specs.Term.{Term}

-- ---- enabling conditions

-- the first failure among conditions in their order
abbrev pub failing : Result Bool Failure → Option Failure → Option Failure
failing (Err why) later = Some why
failing (Ok truth) later = later

abbrev pub first_failure : Environment → List Term → Option Failure
first_failure here [] = None
first_failure here (term ∷ rest) = failing (truth_at here term) (first_failure here rest)

-- a signal with a condition is an input where that is true, and waits where it is false
abbrev pub enabled : Result Bool Failure → Class
enabled (Ok true) = class.Input
enabled (Ok false) = class.Saved
enabled (Err why) = class.Saved

abbrev pub class_by : Environment → Option Response → Class
class_by here None = class.Discard
class_by here (Some (input variables None body)) = class.Input
class_by here (Some (input variables (Some condition) body)) = enabled (truth_at here condition)
class_by here (Some (priority_input variables body)) = class.Priority
class_by here (Some save) = class.Saved

-- No enabling condition of the state fails, and these are the classes of all signals.
pub record Selects (p : Behaviour) (state : StateMeaning) (here : Environment) (classes : List Class) : Type 0 where
  pub none_fails : first_failure here state.enabling ≡ None
  pub selects : (signal : SignalId) → selection.class_of classes signal ≡ class_by here (response_to p state signal)

-- ---- continuous signals

-- the first continuous signal whose condition is true, with its number in the order of the text and the number of its
-- body; or one before it fails; or none is true
pub data Tried : Type 0 where
  begins : (number body : ℕ) → Tried
  fails : (why : Failure) → Tried
  none_true : Tried

abbrev pub tried_or : Result Bool Failure → ContinuousSignal → Tried → Tried
tried_or (Err why) signal later = fails why
tried_or (Ok true) signal later = begins signal.number signal.body
tried_or (Ok false) signal later = later

abbrev pub tried : Environment → List ContinuousSignal → Tried
tried here [] = none_true
tried here (signal ∷ rest) = tried_or (truth_at here signal.condition) signal (tried here rest)
