-- When what names stand for is there, in a process of a system.
use Rattle.std.specs.Prelude.{◌≡◌, ℕ, true, List, Option, None, Some, IfSome, length, map, slice_get, take}
use Rattle.build_expressions.specs.OperandSorts.{kind_of}
use Rattle.build_expressions.specs.Scope as names
use Rattle.build_expressions.specs.Scope.{AgentMeaning, Scope, SignalMeaning, agent_in, signal_in, value_in}
use Rattle.build_expressions.specs.declared.scope.Constant.{Constant}
use Rattle.build_expressions.specs.declared.scope.Constant.TheVariants as constants
use Rattle.build_expressions.specs.declared.scope.ValueMeaning.{ValueMeaning}
use Rattle.build_expressions.specs.declared.scope.ValueMeaning.TheVariants as meant
use Rattle.laws_sound_runs.specs.Kinds.{has_kind}
use Rattle.sdl_system.specs.System.{SystemValue}
use Rattle.sdl_system.specs.declared.process.Process.{Process}
use Rattle.sdl_system.specs.declared.process.Variable.{Variable}
use Rattle.sdl_system.specs.declared.signal.Signal.{Signal}
use Rattle.sdl_system.specs.declared.signal.Timer.{Timer}
use Rattle.sdl_system.specs.declared.sort.Sort.{Sort}

-- a constant of a synonym of this sort is a value of its kind
abbrev pub IsSoundConstant : Option Sort → Constant → Type 0
IsSoundConstant sort (constants.Value v) = IfSome sort (λ s. has_kind (kind_of s) v ≡ true)
IsSoundConstant sort constants.NoValue = Unit {0}
IsSoundConstant sort constants.Refused = Unit {0}

-- a variable of the process, with its sort; or a synonym with a value of its kind
abbrev pub IsSoundValue : Process → ValueMeaning → Type 0
IsSoundValue process (meant.Variable number sort) =
    (v : Variable) × (slice_get process.variables.items number.0 ≡ Some v) × (sort ≡ Some v.sort)
IsSoundValue process (meant.Synonym sort value) = IsSoundConstant sort value

-- the sorts of the values that a signal or a timer takes
abbrev pub all_sorts : Signal → List (Option Sort)
all_sorts one = map Some one.sorts.items

-- a signal of the system, or a timer, with the sorts of its values
abbrev pub IsSoundSignal : SystemValue → SignalMeaning → Type 0
IsSoundSignal system (names.signal number sorts) =
    (one : Signal) × (slice_get system.signals number.0 ≡ Some one) × (sorts ≡ all_sorts one) × (one.timer ≡ None)
IsSoundSignal system (names.timer number sorts has_default) =
    (one : Signal) × (it : Timer) × (slice_get system.signals number.0 ≡ Some one) × (sorts ≡ all_sorts one)
    × (one.timer ≡ Some it)

-- the sorts of the formal parameters of a process: those of its first variables
abbrev pub parameter_sorts : Process → List Sort
parameter_sorts process = map (λ (v : Variable). v.sort) (take process.parameters process.variables.items)

-- a process of the system, with the sorts of its formal parameters, which are as many as it says
abbrev pub IsSoundAgent : SystemValue → AgentMeaning → Type 0
IsSoundAgent system (names.process number sorts) =
    (one : Process) × (slice_get system.processes number.0 ≡ Some one) × (sorts ≡ map Some (parameter_sorts one))
    × (length (parameter_sorts one) ≡ one.parameters)
IsSoundAgent system names.block = Unit {0}

-- Each name stands for what is there.
pub record IsSoundScope (system : SystemValue) (process : Process) (scope : Scope) : Type 0 where
  pub values : (text : List ℕ) (meaning : ValueMeaning) → value_in scope text ≡ Some meaning
      → IsSoundValue process meaning
  pub signals : (text : List ℕ) (meaning : SignalMeaning) → signal_in scope text ≡ Some meaning
      → IsSoundSignal system meaning
  pub agents : (text : List ℕ) (meaning : AgentMeaning) → agent_in scope text ≡ Some meaning
      → IsSoundAgent system meaning
