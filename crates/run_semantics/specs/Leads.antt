-- One step of a process (Z.101: agent, state; Z.102: start, input, priority input, continuous signal, transition, task,
-- output, timers, create, decision, join, nextstate, stop).
use Rattle.std.specs.Prelude.{◌≡◌, ◌≢◌, ℕ, ◌+◌, ◌<◌, ◌≤◌, List, [], ◌∷◌, Option, None, Some, Ok, slice_get}
use Rattle.port_model.specs.History.{PortEvent, Reset, Set, Stop, Take}
use Rattle.port_model.specs.Port.{PortState}
use Rattle.port_model.specs.Take.{Takes, name_of}
use Rattle.port_model.specs.declared.got.Got.{Got}
use Rattle.port_model.specs.declared.values.item.SignalId.{SignalId}
use Rattle.port_model.specs.declared.values.pid.Pid.{Pid}
use Rattle.port_model.specs.declared.values.pid.Pid.TheVariants.{Null, Of}
use Rattle.port_model.specs.declared.plain_port.TheConstants.{MOST_SETS}
use Rattle.port_model.specs.declared.selection.Class.{Class}
use Rattle.port_model.specs.declared.taken.Taken.TheVariants as taken
use Rattle.port_model.specs.declared.values.timer_key.TimerKey.{TimerKey}
use Rattle.port_model.specs.declared.values.value.Value.{Value}
use Rattle.run_record.specs.Environment.{Environment, environment}
use Rattle.run_record.specs.Value.{at_place, key_at, placed, value_of, values_at}
use Rattle.run_record.specs.declared.evaluation.identity.Identity.{Identity}
use Rattle.run_record.specs.declared.evaluation.store.Store.{Store}
use Rattle.run_record.specs.Event.{Event, values_got}
use Rattle.run_record.specs.Event as event
use Rattle.run_record.specs.declared.failure.Failure.{Failure}
use Rattle.run_semantics.specs.Effect.{Effect, Arm, Create, Deed, Send}
use Rattle.run_semantics.specs.Fails.{Fails, FailsIn, most_statements, parameters_of, sent_by, set_by}
use Rattle.run_semantics.specs.ControlPoint.{Amid, AtStart, Closed, Definition, Doing, Ended, In, IsState, ControlPoint, Receiving}
use Rattle.run_semantics.specs.Reception.{Inputs, IsPriorityInput, assigned, provided, receiving, sort_in, taking}
use Rattle.run_semantics.specs.Selection.{Selects, begins, none_true, tried}
use Rattle.run_semantics.specs.World.{MayReach}
use Rattle.sdl_system.specs.Behaviour.{StateMeaning, response_to}
use Rattle.sdl_system.specs.Body as body
use Rattle.sdl_system.specs.Body.{Assigning, Body, Parts, Sending, Setting, Whither, chosen, followed}
use Rattle.sdl_system.specs.Table.{LabelOf}
use Rattle.sdl_system.specs.Term.{Term}
use Rattle.sdl_system.specs.declared.id.ProcessId.{ProcessId}
use Rattle.sdl_system.specs.declared.id.StateId.{StateId}
use Rattle.sdl_system.specs.declared.id.VariableId.{VariableId}
use Rattle.sdl_system.specs.declared.route.Dest.{Dest}
use Rattle.sdl_system.specs.declared.route.Target.{Target}

-- ---- in a state

-- the state of this number, with the classes that it selects
pub record Selecting (d : Definition) (who : Identity) (q : PortState) (n : StateId) (s : Store)
    (classes : List Class) : Type 0 where
  pub state : StateMeaning
  pub is : slice_get d.behaviour.states n.0 ≡ Some state
  pub selects : Selects d.behaviour state (environment d.system who s q) classes

-- An input takes what the port gives: its values go to the variables of the input, and its body is next.
pub record Consumes (d : Definition) (who : Identity) (q : PortState) (n : StateId) (s : Store) (at : ℕ) (got : Got)
    (calls : List PortEvent) (to : ControlPoint) (t : Store) : Type 0 where
  pub classes : List Class
  pub selecting : Selecting d who q n s classes
  pub variables : List (Option VariableId)
  pub next : Body
  pub inputs : Inputs d.behaviour (response_to d.behaviour selecting.state (name_of got)) variables next
  pub calls_are : calls ≡ Take classes (taken.Consumed got) ∷ []
  pub time : s.time ≤ at
  pub place : to ≡ Receiving (Some n) variables (values_got got) next
  pub store : t ≡ receiving who at got s

-- A priority input takes it, in the same way.
pub record ConsumesPriority (d : Definition) (who : Identity) (q : PortState) (n : StateId) (s : Store) (at : ℕ)
    (got : Got)
    (calls : List PortEvent) (to : ControlPoint) (t : Store) : Type 0 where
  pub classes : List Class
  pub selecting : Selecting d who q n s classes
  pub variables : List (Option VariableId)
  pub next : Body
  pub inputs : IsPriorityInput d.behaviour (response_to d.behaviour selecting.state (name_of got)) variables next
  pub calls_are : calls ≡ Take classes (taken.Consumed got) ∷ []
  pub time : s.time ≤ at
  pub place : to ≡ Receiving (Some n) variables (values_got got) next
  pub store : t ≡ receiving who at got s

-- What the state neither inputs nor saves is gone, and its sender is known.
pub record Discards (d : Definition) (who : Identity) (q : PortState) (n : StateId) (s : Store) (at : ℕ) (got : Got)
    (calls : List PortEvent) (to : ControlPoint) (t : Store) : Type 0 where
  pub classes : List Class
  pub selecting : Selecting d who q n s classes
  pub calls_are : calls ≡ Take classes (taken.Discarded got) ∷ []
  pub time : s.time ≤ at
  pub place : to ≡ In n
  pub store : t ≡ taking who at got s

-- The port gives nothing, and the first continuous signal whose condition is true begins its transition.
pub record Provides (d : Definition) (who : Identity) (q : PortState) (n : StateId) (s : Store) (at number : ℕ)
    (calls : List PortEvent) (to : ControlPoint) (t : Store) : Type 0 where
  pub classes : List Class
  pub selecting : Selecting d who q n s classes
  pub begin : ℕ
  pub next : Body
  pub tries : tried (environment d.system who s q) selecting.state.continuous ≡ begins number begin
  pub listed : slice_get d.behaviour.bodies begin ≡ Some next
  pub calls_are : calls ≡ Take classes taken.Nothing ∷ []
  pub time : s.time ≤ at
  pub place : to ≡ Doing (Some n) next
  pub store : t ≡ provided who at s

-- A condition or a take fails.
pub record FailsHere (d : Definition) (who : Identity) (q : PortState) (n : StateId) (s : Store) (at : ℕ)
    (why : Failure)
    (calls : List PortEvent) (to : ControlPoint) (t : Store) : Type 0 where
  pub state : StateMeaning
  pub is : slice_get d.behaviour.states n.0 ≡ Some state
  pub fails : FailsIn d.behaviour state (environment d.system who s q) calls why
  pub time : s.time ≤ at
  pub place : to ≡ Ended
  pub store : t ≡ record s { time = at }

-- Nothing can be taken in the state, and no continuous signal is true.
pub record IsQuiet (d : Definition) (who : Identity) (q : PortState) (n : StateId) (s : Store)
    (classes : List Class) : Type 0 where
  pub selecting : Selecting d who q n s classes
  pub nothing : Takes classes q taken.Nothing q
  pub tries : tried (environment d.system who s q) selecting.state.continuous ≡ none_true

-- ---- in the midst of an action

-- a value goes to a variable
pub record Assigns (d : Definition) (who : Identity) (q : PortState) (one : Assigning) (s : Store)
    (variable : VariableId)
    (value : Value) (t : Store) : Type 0 where
  pub is : variable ≡ one.variable
  pub evaluated : at_place (sort_in d.behaviour variable) (value_of (environment d.system who s q) one.value) ≡ Ok value
  pub store : t ≡ assigned variable value s

-- A signal is sent with its values to whom the output names. It reaches a target to which it goes, from this process, by
-- the routes of the system and some list of living instances.
pub record Sends (d : Definition) (who : Identity) (q : PortState) (to : Option Whither) (one : Sending) (s : Store)
    (signal : SignalId) (named : Dest) (values : List Value) (target : Target) (effects : List Effect) : Type 0 where
  pub is : signal ≡ one.signal
  pub evaluated : sent_by d.system (environment d.system who s q) to one ≡ Ok (named, values)
  pub reached : MayReach d.system signal who.process named target
  pub effects_are : effects ≡ Send target (record { name = signal; values = values; sender = Of who.pid }) ∷ []

-- a timer is set, for which the port has a number left: its fuse has the number of the set
pub record Sets (d : Definition) (who : Identity) (q : PortState) (one : Setting) (s : Store) (key : TimerKey) (due : ℕ)
    (calls : List PortEvent) (effects : List Effect) : Type 0 where
  pub evaluated : set_by (environment d.system who s q) one ≡ Ok (due, key)
  pub numbered : q.sets ≢ MOST_SETS
  pub calls_are : calls ≡ Set key due (q.sets + 1) ∷ []
  pub effects_are : effects ≡ Arm (record { pid = who.pid; key = key; arm = q.sets + 1; due = due }) ∷ []

-- an instance is made with the values of its parameters, or none
abbrev pub created : ProcessId → ℕ → List Value → Option ℕ → List Effect
created process parent values None = []
created process parent values (Some number) = Create process number parent values ∷ []

abbrev pub offspring_of : Option ℕ → Pid
offspring_of None = Null
offspring_of (Some number) = Of number

pub record Creates (d : Definition) (who : Identity) (q : PortState) (process : ProcessId) (terms : List Term)
    (s : Store)
    (number : Option ℕ) (effects : List Effect) (t : Store) : Type 0 where
  pub values : List Value
  pub evaluated : values_at (environment d.system who s q) (parameters_of d.system process) terms ≡ Ok values
  pub effects_are : effects ≡ created process who.pid values number
  pub store : t ≡ record s { offspring = offspring_of number }

-- ---- one event

-- An event of the record leads from a place and what is known there to another, with the calls of the instance's own
-- port that belong to it, and with what it does outside. The port is the one before those calls.
abbrev pub Happens : Definition → Identity → PortState → ControlPoint → Store → Event → List PortEvent → List Effect → ControlPoint
    → Store
    → Type 0
Happens d who q AtStart s (event.Start at) calls effects to t =
    (calls ≡ []) × (effects ≡ []) × (s.time ≤ at) × (t ≡ record s { time = at; done = 0 })
    × ((first : Body) × (slice_get d.behaviour.bodies d.behaviour.start ≡ Some first) × (to ≡ Doing None first))
Happens d who q AtStart s (event.Cut state) calls effects to t =
    (calls ≡ []) × (effects ≡ []) × (state ≡ None) × (to ≡ Closed) × (t ≡ s)
Happens d who q (In n) s (event.Consumed at got) calls effects to t = (effects ≡ []) × Consumes d who q n s at got calls to t
Happens d who q (In n) s (event.Prior at got) calls effects to t = (effects ≡ [])
    × ConsumesPriority d who q n s at got calls to t
Happens d who q (In n) s (event.Discarded at got) calls effects to t = (effects ≡ []) × Discards d who q n s at got calls to t
Happens d who q (In n) s (event.Provided at number) calls effects to t =
    (effects ≡ []) × Provides d who q n s at number calls to t
Happens d who q (In n) s (event.FailedAt at why) calls effects to t = (effects ≡ []) × FailsHere d who q n s at why calls to t
Happens d who q (In n) s (event.Rest state) calls effects to t =
    (calls ≡ []) × (effects ≡ []) × (state ≡ n) × (to ≡ Closed) × (t ≡ s)
    × ((classes : List Class) × IsQuiet d who q n s classes)
Happens d who q (In n) s (event.Cut state) calls effects to t =
    (calls ≡ []) × (effects ≡ []) × (state ≡ Some n) × (to ≡ Closed) × (t ≡ s)
Happens d who q (Amid origin (body.task (one ∷ more)) rest) s (event.Task variable value) calls effects to t =
    (calls ≡ []) × (effects ≡ []) × (to ≡ Amid origin (body.task more) rest) × Assigns d who q one s variable value t
Happens d who q (Amid origin (body.output (one ∷ more) whom) rest) s
    (event.Output signal named values target) calls effects to t =
    (calls ≡ []) × (to ≡ Amid origin (body.output more whom) rest) × (t ≡ s)
    × Sends d who q whom one s signal named values target effects
Happens d who q (Amid origin (body.set (one ∷ more)) rest) s (event.Set key due) calls effects to t =
    (to ≡ Amid origin (body.set more) rest) × (t ≡ s) × Sets d who q one s key due calls effects
Happens d who q (Amid origin (body.reset (one ∷ more)) rest) s (event.Reset key) calls effects to t =
    (calls ≡ Reset key ∷ []) × (effects ≡ []) × (to ≡ Amid origin (body.reset more) rest) × (t ≡ s)
    × (key_at (environment d.system who s q) one.timer one.values ≡ Ok key)
Happens d who q (Amid origin (body.create process terms) rest) s (event.Create process' number) calls effects to t =
    (calls ≡ []) × (process' ≡ process) × (to ≡ Doing origin rest) × Creates d who q process terms s number effects t
Happens d who q (Doing origin (body.ending (body.to_state n))) s (event.NextState n') calls effects to t =
    (calls ≡ []) × (effects ≡ []) × (n' ≡ n) × (to ≡ In n) × (t ≡ s) × IsState d n
Happens d who q (Doing (Some n) (body.ending body.to_same)) s (event.NextState n') calls effects to t =
    (calls ≡ []) × (effects ≡ []) × (n' ≡ n) × (to ≡ In n) × (t ≡ s) × IsState d n
Happens d who q (Doing origin (body.ending body.stop)) s event.Stop calls effects to t =
    (calls ≡ Stop ∷ []) × (effects ≡ []) × (to ≡ Ended) × (t ≡ s)
Happens d who q place s (event.Failed why) calls effects to t =
    (calls ≡ Stop ∷ []) × (effects ≡ []) × Fails d who q place s why × (to ≡ Ended) × (t ≡ s)
Happens d who q place s happened calls effects to t = ⊥

abbrev pub Leads : Definition → Identity → PortState → ControlPoint → Store → Deed → ControlPoint → Store → Type 0
Leads d who q place s deed to t = Happens d who q place s deed.event deed.calls deed.effects to t

-- ---- a step without an event

-- The value of the question chooses a part, behind which stands what follows the decision.
pub record Chooses (here : Environment) (question : Term) (parts : Parts) (rest : Body) (next : Body) : Type 0 where
  pub value : Value
  pub part : Body
  pub asked : value_of here question ≡ Ok value
  pub takes : chosen value parts ≡ Some part
  pub goes_on : next ≡ followed part rest

-- one statement more is done
abbrev pub Counts : Store → Store → Type 0
Counts s t = (s.done < most_statements) × (t ≡ record s { done = s.done + 1 })

-- A value that is received goes to its variable, or is dropped; those without a place are dropped. A statement is
-- counted before it is done. Behind the last of its list it is done, and a label is passed.
abbrev pub LeadsSilently : Definition → Identity → PortState → ControlPoint → Store → ControlPoint → Store → Type 0
LeadsSilently d who q (Receiving origin (Some variable ∷ variables) (value ∷ values) next) s to t =
    (to ≡ Receiving origin variables values next)
    × ((taken : Value) × (placed (sort_in d.behaviour variable) value ≡ Ok taken) × (t ≡ assigned variable taken s))
LeadsSilently d who q (Receiving origin (None ∷ variables) (value ∷ values) next) s to t =
    (to ≡ Receiving origin variables values next) × (t ≡ s)
LeadsSilently d who q (Receiving origin variables values next) s to t = (to ≡ Doing origin next) × (t ≡ s)
LeadsSilently d who q (Doing origin (body.action first rest)) s to t = (to ≡ Amid origin first rest) × Counts s t
LeadsSilently d who q (Doing origin (body.decision question parts rest)) s to t =
    Counts s t
    × ((next : Body) × Chooses (environment d.system who s q) question parts rest next × (to ≡ Doing origin next))
LeadsSilently d who q (Doing origin (body.label number rest)) s to t = (to ≡ Doing origin rest) × (t ≡ s)
LeadsSilently d who q (Doing origin (body.ending (body.join label))) s to t =
    Counts s t × ((on : Body) × LabelOf d.behaviour.bodies label on × (to ≡ Doing origin on))
LeadsSilently d who q (Amid origin (body.task []) rest) s to t = (to ≡ Doing origin rest) × (t ≡ s)
LeadsSilently d who q (Amid origin (body.output [] whom) rest) s to t = (to ≡ Doing origin rest) × (t ≡ s)
LeadsSilently d who q (Amid origin (body.set []) rest) s to t = (to ≡ Doing origin rest) × (t ≡ s)
LeadsSilently d who q (Amid origin (body.reset []) rest) s to t = (to ≡ Doing origin rest) × (t ≡ s)
LeadsSilently d who q place s to t = ⊥
