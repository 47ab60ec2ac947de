-- Why a transition fails, and why an instance fails in a state (Z.102: transition; Z.104: expressions).
use Rattle.std.specs.Prelude.{◌≡◌, ◌⊎◌, ℕ, ◌+ℤ◌, ℤ, pos, negsuc, ◌<◌, ◌≤◌, true, List, [], ◌∷◌, Option, None, Some, Result, Ok, Err, map, slice_get, take, if◌then◌else◌}
use Rattle.std.specs.List.{list_any}
use Rattle.std.specs.Option.{option_map_or}
use Rattle.port_model.specs.History.{PortEvent, Stop, Take}
use Rattle.port_model.specs.Port.{PortState}
use Rattle.port_model.specs.declared.plain_port.TheConstants.{MOST_SETS}
use Rattle.port_model.specs.declared.selection.Class.{Class}
use Rattle.port_model.specs.declared.taken.Taken.{Taken}
use Rattle.port_model.specs.declared.taken.Taken.TheVariants.{Consumed, Discarded, Nothing}
use Rattle.port_model.specs.declared.values.timer_key.TimerKey.{TimerKey}
use Rattle.port_model.specs.declared.values.value.Value.{Value}
use Rattle.run_record.specs.Environment.{Environment, environment, sorts_of}
use Rattle.run_record.specs.Memory.{wants_memory}
use Rattle.run_record.specs.Value.{at_place, key_at, placed, value_at, value_of, values_at}
use Rattle.run_record.specs.declared.evaluation.identity.Identity.{Identity}
use Rattle.run_record.specs.declared.evaluation.store.Store.{Store}
use Rattle.run_record.specs.declared.failure.Failure.{Failure}
use Rattle.run_record.specs.declared.failure.Failure.TheVariants.{Memory, NoAnswer, Overflow, SetsSpent, TooLong, Undefined}
use Rattle.run_semantics.specs.ControlPoint.{Amid, Definition, Doing, IsState, ControlPoint, Receiving}
use Rattle.run_semantics.specs.Reception.{sort_in}
use Rattle.run_semantics.specs.Selection.{Selects, fails, first_failure, tried}
use Rattle.sdl_system.specs.Behaviour.{Behaviour, ContinuousSignal, StateMeaning}
use Rattle.sdl_system.specs.Body as body
use Rattle.sdl_system.specs.Body.{Parts, Sending, Setting, When, Whither, chosen}
use Rattle.sdl_system.specs.Operation.{is_in_range, number_of}
use Rattle.sdl_system.specs.Sort.{pid_of}
use Rattle.sdl_system.specs.System.{SystemValue}
use Rattle.sdl_system.specs.Term.{Term}
use Rattle.sdl_system.specs.declared.id.ProcessId.{ProcessId}
use Rattle.sdl_system.specs.declared.process.Variable.{Variable}
use Rattle.sdl_system.specs.declared.route.Dest as dest
use Rattle.sdl_system.specs.declared.route.Dest.TheVariants as whom
use Rattle.sdl_system.specs.declared.sort.Sort.{Sort}
use Rattle.sdl_system.specs.declared.sort.Sort.TheVariants as sort

-- ---- what statements evaluate

-- how many statements a transition may have
abbrev pub most_statements : ℕ
most_statements = 10000

-- two evaluations, of which the first fails first
abbrev pub both : {A B : Type 0} → Result A Failure → Result B Failure → Result (A × B) Failure
both (Err why) second = Err why
both (Ok first) (Err why) = Err why
both (Ok first) (Ok second) = Ok (first, second)

-- whom an output names
abbrev pub pid_named : Result Value Failure → Result dest.Dest Failure
pid_named (Err why) = Err why
pid_named (Ok value) = Ok (whom.Pid (pid_of value))

abbrev pub named_by : Environment → Option Whither → Result dest.Dest Failure
named_by here None = Ok whom.Path
named_by here (Some (body.to_process process)) = Ok (whom.Process process)
named_by here (Some (body.to_pid term)) = pid_named (value_at here sort.Pid term)

-- whom an output names, and then the values of a signal
abbrev pub sent_by : SystemValue → Environment → Option Whither → Sending → Result (dest.Dest × List Value) Failure
sent_by system here to one = both (named_by here to) (values_at here (sorts_of system one.signal) one.values)

-- a time from the start on; a negative one counts as 0
abbrev pub ticks : ℤ → ℕ
ticks (pos n) = n
ticks (negsuc n) = 0

abbrev pub ticks_of : Result Value Failure → Result ℕ Failure
ticks_of (Err why) = Err why
ticks_of (Ok value) = Ok (ticks (number_of value))

-- a time so many ticks later, or earlier; past 64 bits with a sign there is none
abbrev pub in_range : ℤ → Result ℤ Failure
in_range time = if is_in_range time then Ok time else Err Overflow

abbrev pub later : ℕ → ℤ → Result ℤ Failure
later now duration = if is_in_range (pos now) then in_range (pos now +ℤ duration) else Err Overflow

abbrev pub ticks_later : Result ℤ Failure → Result ℕ Failure
ticks_later (Err why) = Err why
ticks_later (Ok time) = Ok (ticks time)

-- when a timer is due
abbrev pub due_by : Environment → When → Result ℕ Failure
due_by here (body.at time) = ticks_of (value_at here sort.Time time)
due_by here (body.after duration) = ticks_later (later here.now duration)

-- when a timer is due, and then its key
abbrev pub set_by : Environment → Setting → Result (ℕ × TimerKey) Failure
set_by here one = both (due_by here one.due) (key_at here one.timer.timer one.timer.values)

-- the sorts of the parameters of a process
abbrev pub parameters_of : SystemValue → ProcessId → List Sort
parameters_of system process =
    option_map_or (λ p. map (λ (v : Variable). v.sort) (take p.parameters p.variables.items))
    (slice_get system.processes process.0) []

-- ---- causes

-- one statement too many
abbrev pub IsTooLong : Store → Failure → Type 0
IsTooLong s why = (why ≡ TooLong) × (most_statements ≤ s.done)

-- no part of a decision has an answer that the value of the question meets
pub record HasNoAnswer (here : Environment) (question : Term) (parts : Parts) (why : Failure) : Type 0 where
  pub value : Value
  pub asked : value_of here question ≡ Ok value
  pub none : chosen value parts ≡ None
  pub told : why ≡ NoAnswer

-- a timer is set for which the port has no number left
pub record IsSpent (here : Environment) (q : PortState) (one : Setting) (why : Failure) : Type 0 where
  pub due : ℕ
  pub key : TimerKey
  pub evaluated : set_by here one ≡ Ok (due, key)
  pub spent : q.sets ≡ MOST_SETS
  pub told : why ≡ SetsSpent

-- What fails a transition at this place, by what is to be done there. A transition that leads to no state fails as
-- Undefined: to one that the process doesn't have, or from the start to that from which it began. A text in which that
-- can be has no system.
abbrev pub HasCause : Definition → Identity → PortState → ControlPoint → Store → Failure → Type 0
HasCause d who q (Receiving origin (Some variable ∷ variables) (value ∷ values) rest) s why =
    placed (sort_in d.behaviour variable) value ≡ Err why
HasCause d who q (Doing origin (body.action first rest)) s why = IsTooLong s why
HasCause d who q (Doing origin (body.decision question parts rest)) s why =
    IsTooLong s why
    ⊎ ((s.done < most_statements) × (value_of (environment d.system who s q) question ≡ Err why))
    ⊎ ((s.done < most_statements) × HasNoAnswer (environment d.system who s q) question parts why)
HasCause d who q (Doing origin (body.ending (body.join label))) s why = IsTooLong s why
HasCause d who q (Doing origin (body.ending (body.to_state n))) s why = (why ≡ Undefined) × (IsState d n → ⊥)
HasCause d who q (Doing None (body.ending body.to_same)) s why = why ≡ Undefined
HasCause d who q (Doing (Some n) (body.ending body.to_same)) s why = (why ≡ Undefined) × (IsState d n → ⊥)
HasCause d who q (Amid origin (body.task (one ∷ more)) rest) s why =
    at_place (sort_in d.behaviour one.variable) (value_of (environment d.system who s q) one.value) ≡ Err why
HasCause d who q (Amid origin (body.output (one ∷ more) to) rest) s why =
    sent_by d.system (environment d.system who s q) to one ≡ Err why
HasCause d who q (Amid origin (body.set (one ∷ more)) rest) s why =
    (set_by (environment d.system who s q) one ≡ Err why) ⊎ IsSpent (environment d.system who s q) q one why
HasCause d who q (Amid origin (body.reset (one ∷ more)) rest) s why =
    key_at (environment d.system who s q) one.timer one.values ≡ Err why
HasCause d who q (Amid origin (body.create process values) rest) s why =
    values_at (environment d.system who s q) (parameters_of d.system process) values ≡ Err why
HasCause d who q place s why = ⊥

-- Where memory is asked for: to record an event, to keep values, to send. What only counts, goes on or receives asks
-- for none.
abbrev pub Grows : ControlPoint → Type 0
Grows (Doing origin (body.decision question parts rest)) = wants_memory question ≡ true
Grows (Doing origin (body.ending (body.to_state state))) = Unit {0}
Grows (Doing origin (body.ending body.to_same)) = Unit {0}
Grows (Doing origin (body.ending body.stop)) = Unit {0}
Grows (Amid origin (body.task (one ∷ more)) rest) = Unit {0}
Grows (Amid origin (body.output (one ∷ more) to) rest) = Unit {0}
Grows (Amid origin (body.set (one ∷ more)) rest) = Unit {0}
Grows (Amid origin (body.reset (one ∷ more)) rest) = Unit {0}
Grows (Amid origin (body.create process values) rest) = Unit {0}
Grows place = ⊥

-- a transition fails: memory was refused where it is asked for, or there is a cause
abbrev pub Fails : Definition → Identity → PortState → ControlPoint → Store → Failure → Type 0
Fails d who q place s why = ((why ≡ Memory) × Grows place) ⊎ HasCause d who q place s why

-- ---- in a state

-- a take that gave something
abbrev pub HasGiven : Taken → Type 0
HasGiven (Consumed got) = Unit {0}
HasGiven (Discarded got) = Unit {0}
HasGiven Nothing = ⊥

abbrev pub conditions_of : List ContinuousSignal → List Term
conditions_of signals = map (λ (signal : ContinuousSignal). signal.condition) signals

-- An instance fails in a state: an enabling condition fails; memory is refused before something is taken, to record
-- what was taken, or to try a continuous signal; or the condition of one fails before one is true. With it stand the
-- calls of the port.
pub data FailsIn (p : Behaviour) (state : StateMeaning) (here : Environment) : List PortEvent → Failure → Type 0 where
  of_condition : (why : Failure) → first_failure here state.enabling ≡ Some why → FailsIn p state here (Stop ∷ []) why
  of_take : FailsIn p state here (Stop ∷ []) Memory
  of_event : (classes : List Class) (taken : Taken) → Selects p state here classes → HasGiven taken
      → FailsIn p state here (Take classes taken ∷ Stop ∷ []) Memory
  of_continuous : (classes : List Class) (why : Failure) → Selects p state here classes
      → tried here state.continuous ≡ fails why → FailsIn p state here (Take classes Nothing ∷ Stop ∷ []) why
  of_trying : (classes : List Class) → Selects p state here classes
      → list_any wants_memory (conditions_of state.continuous) ≡ true
      → FailsIn p state here (Take classes Nothing ∷ Stop ∷ []) Memory
