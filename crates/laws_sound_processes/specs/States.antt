-- When what a state does is sound (Z.101: state, input, save; Z.102: priority input, enabling condition, continuous
-- signal).
use Rattle.std.specs.Prelude.{◌≡◌, ◌<◌, ℕ, true, All, IfSome, List, [], ◌∷◌, Option, None, Some, length, slice_get}
use Rattle.port_model.specs.declared.values.item.SignalId.{SignalId}
use Rattle.build_expressions.specs.OperandSorts.{fits, kind_of}
use Rattle.laws_sound_runs.specs.Kinds.{FitsPlace}
use Rattle.sdl_system.specs.Behaviour.{ContinuousSignal, Response, StateMeaning, input, priority_input, save}
use Rattle.sdl_system.specs.System.{SystemValue}
use Rattle.sdl_system.specs.Term.{Term}
use Rattle.sdl_system.specs.declared.id.VariableId.{VariableId}
use Rattle.sdl_system.specs.declared.process.Process.{Process}
use Rattle.sdl_system.specs.declared.process.Variable.{Variable}
use Rattle.sdl_system.specs.declared.signal.Signal.{Signal}
use Rattle.sdl_system.specs.declared.sort.Sort.{Sort}
use Rattle.sdl_system.specs.declared.sort.Sort.TheVariants as sort

-- a variable of the process, which values of this sort fit
pub record Takes (process : Process) (sort : Sort) (number : VariableId) : Type 0 where
  pub variable : Variable
  pub listed : slice_get process.variables.items number.0 ≡ Some variable
  pub fitting : fits (kind_of sort) variable.sort ≡ true

-- there are no more places than values of these sorts, and each value fits its place, where that isn't left out
abbrev pub TakeAll : Process → List Sort → List (Option VariableId) → Type 0
TakeAll process sorts [] = Unit {0}
TakeAll process [] (variable ∷ variables) = ⊥
TakeAll process (one ∷ sorts) (None ∷ variables) = TakeAll process sorts variables
TakeAll process (one ∷ sorts) (Some number ∷ variables) = Takes process one number × TakeAll process sorts variables

-- a signal or a timer of the system, the values of which go to these variables
pub record IsSoundInput (system : SystemValue) (process : Process) (number : SignalId)
    (variables : List (Option VariableId)) : Type 0 where
  pub signal : Signal
  pub listed : slice_get system.signals number.0 ≡ Some signal
  pub takes : TakeAll process signal.sorts.items variables

-- the condition fits a place of a truth
abbrev pub IsTruth : SystemValue → Process → Term → Type 0
IsTruth system process condition = FitsPlace system process sort.Boolean condition

-- what is done with a signal that the state names, in a process with so many bodies
abbrev pub IsSoundResponse : SystemValue → Process → ℕ → SignalId → Response → Type 0
IsSoundResponse system process count signal (input variables condition body) =
    IsSoundInput system process signal variables × IfSome condition (IsTruth system process) × (body < count)
IsSoundResponse system process count signal (priority_input variables body) =
    IsSoundInput system process signal variables × (body < count)
IsSoundResponse system process count signal save = signal.0 < length system.signals

-- what is done with the others of the valid input set: an asterisk is no priority input, and has no variables
abbrev pub IsSoundRest : SystemValue → Process → ℕ → Response → Type 0
IsSoundRest system process count (input variables condition body) =
    (variables ≡ []) × IfSome condition (IsTruth system process) × (body < count)
IsSoundRest system process count (priority_input variables body) = ⊥
IsSoundRest system process count save = Unit {0}

abbrev pub IsSoundContinuous : SystemValue → Process → ℕ → ContinuousSignal → Type 0
IsSoundContinuous system process count signal = IsTruth system process signal.condition × (signal.body < count)

pub record IsSoundState (system : SystemValue) (process : Process) (count : ℕ) (state : StateMeaning) : Type 0 where
  pub named : (signal : SignalId) (response : Response) → state.named signal ≡ Some response
      → IsSoundResponse system process count signal response
  pub rest : IfSome state.rest (IsSoundRest system process count)
  pub enabling : All (IsTruth system process) state.enabling
  pub continuous : All (IsSoundContinuous system process count) state.continuous
