-- What comes next in a transition, as a function of where it stands among the nodes of its process.
use Rattle.std.proofs.Common.{◌+◌, ℕ, Bool, true, false, List, [], ◌∷◌, Option, None, Some, Result, Ok, Err, length, nat_eq, nat_lt, slice_get, unwrap_or}
use Rattle.port_model.specs.Port.{PortState, remove_from, set_in, stopped}
use Rattle.port_model.specs.declared.values.pid.Pid.TheVariants.{Of}
use Rattle.port_model.specs.declared.plain_port.TheConstants.{MOST_SETS}
use Rattle.port_model.specs.declared.values.timer_key.TimerKey.{TimerKey}
use Rattle.port_model.specs.declared.values.value.Value.{Value}
use Rattle.run_record.specs.Environment.{environment}
use Rattle.run_record.specs.Value.{at_place, key_at, placed, value_of, values_at}
use Rattle.run_record.specs.declared.evaluation.identity.Identity.{Identity}
use Rattle.run_record.specs.declared.evaluation.store.Store.{Store}
use Rattle.run_record.specs.Event as event
use Rattle.run_record.specs.Event.{Event}
use Rattle.run_record.specs.declared.failure.Failure.{Failure}
use Rattle.run_record.specs.declared.failure.Failure.TheVariants.{NoAnswer, SetsSpent, TooLong, Undefined}
use Rattle.run_semantics.specs.Effect.{Effect, Arm, Send}
use Rattle.run_semantics.specs.Fails.{most_statements, parameters_of, sent_by, set_by}
use Rattle.run_semantics.specs.Leads.{created, offspring_of}
use Rattle.run_semantics.specs.ControlPoint as place
use Rattle.run_semantics.specs.ControlPoint.{Definition, ControlPoint}
use Rattle.run_semantics.specs.Reception.{assigned, sort_in}
use Rattle.run_semantics.specs.World.{Living, WorldValue, number_for}
use Rattle.sdl_system.specs.Body as body
use Rattle.sdl_system.specs.Body.{Action, Assigning, Body, Sending, Setting, Terminator, Timing, Whither}
use Rattle.sdl_system.specs.Route.{target_in}
use Rattle.sdl_system.specs.Table.{Has, assigning, sending, setting, timing, way_of, whither_of}
use Rattle.sdl_system.specs.Term.{Term, term_of}
use Rattle.std.specs.Option.{option_map}
use Rattle.std.specs.Prelude.{map}
use Rattle.sdl_system.specs.declared.id.NodeId.{NodeId}
use Rattle.sdl_system.specs.declared.id.ProcessId.{ProcessId}
use Rattle.sdl_system.specs.declared.id.LabelId.{LabelId}
use Rattle.sdl_system.specs.declared.id.StateId.{StateId}
use Rattle.sdl_system.specs.declared.id.VariableId.{VariableId}
use Rattle.sdl_system.specs.declared.route.Dest.{Dest}
use Rattle.sdl_system.specs.declared.route.Source.TheVariants as source
use Rattle.sdl_system.specs.declared.route.Target.{Target}
use Rattle.sdl_system.specs.declared.statement.Decision.{Decision}
use Rattle.sdl_system.specs.declared.statement.Node.{Node}
use Rattle.sdl_system.specs.declared.statement.Statement.{Statement}
use Rattle.sdl_system.specs.declared.statement.Statement.TheVariants as kind

-- ---- where it stands

-- a place of an instance, where a body is known by the node at which it stands
pub data Site : Type 0 where
  at_start : Site
  at_state : (state : StateId) → Site
  receiving : (origin : Option StateId) (variables : List (Option VariableId)) (values : List Value)
      (node : Option NodeId) → Site
  doing : (origin : Option StateId) (node : Option NodeId) → Site
  amid : (origin : Option StateId) (action : Action) (node : Option NodeId) → Site
  over : Site

pub data IsAt (nodes : List Node) (marks : List (Option NodeId)) : ControlPoint → Site → Type 0 where
  is_start : IsAt nodes marks place.AtStart at_start
  is_state : (state : StateId) → IsAt nodes marks (place.In state) (at_state state)
  is_receiving : (origin : Option StateId) (variables : List (Option VariableId)) (values : List Value) (todo : Body)
      (node : Option NodeId) → Has nodes marks node todo None
      → IsAt nodes marks (place.Receiving origin variables values todo) (receiving origin variables values node)
  is_doing : (origin : Option StateId) (todo : Body) (node : Option NodeId) → Has nodes marks node todo None
      → IsAt nodes marks (place.Doing origin todo) (doing origin node)
  is_amid : (origin : Option StateId) (action : Action) (rest : Body) (node : Option NodeId)
      → Has nodes marks node rest None → IsAt nodes marks (place.Amid origin action rest) (amid origin action node)
  is_over : IsAt nodes marks place.Ended over

-- what is run, by whom, and the nodes, labels and entries of its process
pub record Frame : Type 0 where
  pub d : Definition
  pub nodes : List Node
  pub marks : List (Option NodeId)
  pub entries : List NodeId
  pub who : Identity

-- ---- what comes next

-- nothing does; a step without an event; or an event, with what is done outside, and with the port behind it
pub data Next : Type 0 where
  nothing : Next
  turned : (site : Site) (t : Store) → Next
  did : (happened : Event) (effects : List Effect) (site : Site) (t : Store) (r : PortState) → Next

abbrev pub failing : Store → PortState → Failure → Next
failing s q why = did (event.Failed why) [] over s (stopped q)

abbrev pub on_result : {A : Type 0} → Result A Failure → (Failure → Next) → (A → Next) → Next
on_result (Err why) wrong right = wrong why
on_result (Ok value) wrong right = right value

abbrev pub on_option : {A : Type 0} → Option A → Next → (A → Next) → Next
on_option None none some = none
on_option (Some value) none some = some value

abbrev pub on_test : Bool → Next → Next → Next
on_test true met unmet = met
on_test false met unmet = unmet

-- one statement more is counted
abbrev pub counted : Store → Store
counted s = record s { done = s.done + 1 }

abbrev pub counting : Store → PortState → (Store → Next) → Next
counting s q next =
    on_test (nat_lt s.done most_statements) (next (counted s)) (failing s q TooLong)

-- ---- at a node

pub data Head : Type 0 where
  acts : (action : Action) → Head
  asks : (asked : Decision) → Head
  ends : (terminator : Terminator) → Head

abbrev pub head_of : Statement → Head
head_of (kind.Task list) = acts (body.task (map assigning list.items))
head_of (kind.Output sends) = acts (body.output (map sending sends.signals.items) (option_map whither_of sends.to))
head_of (kind.Set list) = acts (body.set (map setting list.items))
head_of (kind.Reset list) = acts (body.reset (map timing list.items))
head_of (kind.Create creation) = acts (body.create creation.process (map term_of creation.values.items))
head_of (kind.Decision asked) = asks asked
head_of (kind.Join label) = ends (body.join label)
head_of (kind.NextState state) = ends (body.to_state state)
head_of kind.SameState = ends body.to_same
head_of kind.Stop = ends body.stop

abbrev pub node_at : List Node → Option NodeId → Option Node
node_at nodes None = None
node_at nodes (Some n) = slice_get nodes n.0

-- where the statements of a label begin
abbrev pub mark_of : List (Option NodeId) → LabelId → Option NodeId
mark_of marks label = unwrap_or (slice_get marks label.0) None

-- a state is entered, which the process has
abbrev pub entering : Frame → Store → PortState → StateId → Next
entering f s q n =
    on_test (nat_lt n.0 (length f.d.behaviour.states)) (did (event.NextState n) [] (at_state n) s q)
    (failing s q Undefined)

abbrev pub ending : Frame → Option StateId → Store → PortState → Terminator → Next
ending f origin s q (body.join label) = counting s q (turned (doing origin (mark_of f.marks label)))
ending f origin s q (body.to_state n) = entering f s q n
ending f None s q body.to_same = failing s q Undefined
ending f (Some n) s q body.to_same = entering f s q n
ending f origin s q body.stop = did event.Stop [] over s (stopped q)

abbrev pub deciding : Frame → Option StateId → Store → PortState → Decision → Store → Next
deciding f origin s q asked t =
    on_result (value_of (environment f.d.system f.who s q) (term_of asked.question)) (failing s q)
    (λ value. on_option (way_of asked value) (failing s q NoAnswer) (λ way. turned (doing origin way.0) t))

abbrev pub at_head : Frame → Option StateId → Store → PortState → Option NodeId → Head → Next
at_head f origin s q after (acts action) = counting s q (turned (amid origin action after))
at_head f origin s q after (asks asked) = counting s q (deciding f origin s q asked)
at_head f origin s q after (ends terminator) = ending f origin s q terminator

abbrev pub at_node : Frame → Option StateId → Store → PortState → Node → Next
at_node f origin s q node = at_head f origin s q node.next (head_of node.statement)

-- ---- in the midst of an action

abbrev pub assigning_next : Frame → Site → Store → PortState → Assigning → Next
assigning_next f site s q one =
    on_result (at_place (sort_in f.d.behaviour one.variable) (value_of (environment f.d.system f.who s q) one.value))
    (failing s q)
    (λ value. did (event.Task one.variable value) [] site (assigned one.variable value s) q)

abbrev pub reached : Frame → WorldValue → Living → Sending → Dest → Target
reached f w living one named =
    target_in f.d.system.routes one.signal (source.Process f.who.process) named living.least

abbrev pub sent : Frame → WorldValue → Site → Store → PortState → Sending → Dest → List Value → Living → Next
sent f w site s q one named values living =
    did (event.Output one.signal named values (reached f w living one named))
    (Send (reached f w living one named) (record { name = one.signal; values = values; sender = Of f.who.pid }) ∷ [])
    site s q

abbrev pub sending_next : Frame → WorldValue → Site → Store → PortState → Option Whither → Sending → Next
sending_next f w site s q to one =
    on_result (sent_by f.d.system (environment f.d.system f.who s q) to one) (failing s q)
    (λ named. on_option w.living nothing (sent f w site s q one named.0 named.1))

-- a set for which the port has a number left
abbrev pub set_at : Frame → Site → Store → PortState → ℕ → TimerKey → Next
set_at f site s q due key =
    did (event.Set key due) (Arm (record { pid = f.who.pid; key = key; arm = q.sets + 1; due = due }) ∷ []) site s
    (set_in q key due)

-- one for which it has none fails
abbrev pub set_or_spent : Frame → Site → Store → PortState → ℕ → TimerKey → Next
set_or_spent f site s q due key =
    on_test (nat_eq q.sets MOST_SETS) (failing s q SetsSpent) (set_at f site s q due key)

abbrev pub setting_next : Frame → Site → Store → PortState → Setting → Next
setting_next f site s q one =
    on_result (set_by (environment f.d.system f.who s q) one) (failing s q) (λ at. set_or_spent f site s q at.0 at.1)

abbrev pub resetting_next : Frame → Site → Store → PortState → Timing → Next
resetting_next f site s q one =
    on_result (key_at (environment f.d.system f.who s q) one.timer one.values) (failing s q)
    (λ key. did (event.Reset key) [] site s (remove_from q key))

abbrev pub made : Frame → WorldValue → Site → Store → PortState → ProcessId → List Value → Living → Next
made f w site s q process values living =
    did (event.Create process (number_for w.system living process))
    (created process f.who.pid values (number_for w.system living process)) site
    (record s { offspring = offspring_of (number_for w.system living process) }) q

abbrev pub creating_next : Frame → WorldValue → Site → Store → PortState → ProcessId → List Term → Next
creating_next f w site s q process terms =
    on_result (values_at (environment f.d.system f.who s q) (parameters_of f.d.system process) terms) (failing s q)
    (λ values. on_option w.living nothing (made f w site s q process values))

abbrev pub acting_next : Frame → WorldValue → Option StateId → Action → Option NodeId → Store → PortState → Next
acting_next f w origin (body.task []) after s q = turned (doing origin after) s
acting_next f w origin (body.task (one ∷ more)) after s q =
    assigning_next f (amid origin (body.task more) after) s q one
acting_next f w origin (body.output [] to) after s q = turned (doing origin after) s
acting_next f w origin (body.output (one ∷ more) to) after s q =
    sending_next f w (amid origin (body.output more to) after) s q to one
acting_next f w origin (body.set []) after s q = turned (doing origin after) s
acting_next f w origin (body.set (one ∷ more)) after s q = setting_next f (amid origin (body.set more) after) s q one
acting_next f w origin (body.reset []) after s q = turned (doing origin after) s
acting_next f w origin (body.reset (one ∷ more)) after s q =
    resetting_next f (amid origin (body.reset more) after) s q one
acting_next f w origin (body.create process terms) after s q =
    creating_next f w (doing origin after) s q process terms

-- ---- what is received

abbrev pub receiving_next : Frame → Option StateId → List (Option VariableId) → List Value → Option NodeId → Store
    → PortState → Next
receiving_next f origin (Some variable ∷ variables) (value ∷ values) node s q =
    on_result (placed (sort_in f.d.behaviour variable) value) (failing s q)
    (λ taken. turned (receiving origin variables values node) (assigned variable taken s))
receiving_next f origin (None ∷ variables) (value ∷ values) node s q =
    turned (receiving origin variables values node) s
receiving_next f origin variables values node s q = turned (doing origin node) s

-- ---- in a transition

abbrev pub next_of : Frame → WorldValue → Site → Store → PortState → Next
next_of f w (receiving origin variables values node) s q = receiving_next f origin variables values node s q
next_of f w (doing origin node) s q = on_option (node_at f.nodes node) nothing (at_node f origin s q)
next_of f w (amid origin action node) s q = acting_next f w origin action node s q
next_of f w site s q = nothing
