-- Statements whose values fit their places, and that name what is there (Z.102: task, output, set, reset, create,
-- decision, nextstate).
use Rattle.std.specs.Prelude.{◌≡◌, ℕ, All, IfSome, List, None, Some, length, slice_get}
use Rattle.build_statements.specs.Contexts.{Context, state_in}
use Rattle.build_expressions.specs.declared.operand_sort.OperandSort.{OperandSort}
use Rattle.laws_sound_runs.specs.Paths.{Every}
use Rattle.laws_sound_runs.specs.Kinds.{FitPlaces, FitsPlace, HasKind}
use Rattle.laws_sound_runs.specs.Scopes.{IsSoundScope, parameter_sorts}
use Rattle.sdl_system.specs.Body as body
use Rattle.sdl_system.specs.Body.{Action, Assigning, Body, Sending, Setting, Terminator, Timing, When, Whither}
use Rattle.sdl_system.specs.Soundness.{IsProcess, IsState}
use Rattle.sdl_system.specs.System.{SystemValue}
use Rattle.sdl_system.specs.Term.{Term, terms_of}
use Rattle.sdl_system.specs.declared.id.ProcessId.{ProcessId}
use Rattle.sdl_system.specs.declared.id.StateId.{StateId}
use Rattle.sdl_system.specs.declared.process.Process.{Process}
use Rattle.sdl_system.specs.declared.process.Variable.{Variable}
use Rattle.sdl_system.specs.declared.signal.Signal.{Signal}
use Rattle.sdl_system.specs.declared.signal.Timer.{Timer}
use Rattle.sdl_system.specs.declared.sort.Sort.TheVariants as sort

-- a variable of the process, and a value that fits it
pub record IsTypedAssigning (system : SystemValue) (process : Process) (one : Assigning) : Type 0 where
  pub variable : Variable
  pub listed : slice_get process.variables.items one.variable.0 ≡ Some variable
  pub fits : FitsPlace system process variable.sort one.value

-- a signal of the system, and values that fit its parameters
pub record IsTypedSending (system : SystemValue) (process : Process) (one : Sending) : Type 0 where
  pub signal : Signal
  pub listed : slice_get system.signals one.signal.0 ≡ Some signal
  pub none : signal.timer ≡ None
  pub fits : FitPlaces system process signal.sorts.items (terms_of one.values)

-- a process of the system, or a Pid
abbrev pub IsTypedWhither : SystemValue → Process → Whither → Type 0
IsTypedWhither system process (body.to_process number) = IsProcess system number
IsTypedWhither system process (body.to_pid who) = FitsPlace system process sort.Pid who

-- a timer of the system, and values that fit its parameters
pub record IsTypedTiming (system : SystemValue) (process : Process) (one : Timing) : Type 0 where
  pub signal : Signal
  pub timer : Timer
  pub listed : slice_get system.signals one.timer.0 ≡ Some signal
  pub some : signal.timer ≡ Some timer
  pub fits : FitPlaces system process signal.sorts.items (terms_of one.values)

abbrev pub IsTypedWhen : SystemValue → Process → When → Type 0
IsTypedWhen system process (body.at time) = FitsPlace system process sort.Time time
IsTypedWhen system process (body.after ticks) = Unit {0}

abbrev pub IsTypedSetting : SystemValue → Process → Setting → Type 0
IsTypedSetting system process one = IsTypedTiming system process one.timer × IsTypedWhen system process one.due

-- a process of the system, and values that fit its formal parameters
pub record IsTypedCreate (system : SystemValue) (process : Process) (number : ProcessId)
    (values : List Term) : Type 0 where
  pub created : Process
  pub listed : slice_get system.processes number.0 ≡ Some created
  pub takes : length (parameter_sorts created) ≡ created.parameters
  pub fits : FitPlaces system process (parameter_sorts created) (terms_of values)

abbrev pub IsTypedAction : SystemValue → Process → Action → Type 0
IsTypedAction system process (body.task assignments) = All (IsTypedAssigning system process) assignments
IsTypedAction system process (body.output signals to) =
    All (IsTypedSending system process) signals × IfSome to (IsTypedWhither system process)
IsTypedAction system process (body.set timers) = All (IsTypedSetting system process) timers
IsTypedAction system process (body.reset timers) = All (IsTypedTiming system process) timers
IsTypedAction system process (body.create number values) = IsTypedCreate system process number values

-- a question is of some kind
pub record HasSomeKind (system : SystemValue) (process : Process) (question : Term) : Type 0 where
  pub kind : OperandSort
  pub is : HasKind system process kind question

-- a state of the process, where one is named
abbrev pub IsTypedTerminator : Process → Terminator → Type 0
IsTypedTerminator process (body.to_state state) = IsState process state
IsTypedTerminator process (body.join label) = Unit {0}
IsTypedTerminator process body.to_same = Unit {0}
IsTypedTerminator process body.stop = Unit {0}

-- each statement in the body is so
abbrev pub IsTypedBody : SystemValue → Process → Body → Type 0
IsTypedBody system process b =
    Every (IsTypedAction system process) (HasSomeKind system process) (IsTypedTerminator process) b

-- ---- what transitions can name

-- each name stands for what is there
pub record IsSoundContext (system : SystemValue) (process : Process) (context : Context) : Type 0 where
  pub scope : IsSoundScope system process context.scope
  pub states : (text : List ℕ) (state : StateId) → state_in context text ≡ Some state → IsState process state
