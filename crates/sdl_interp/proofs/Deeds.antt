-- What each deed inside of a transition brings: from the work `m` to `n`.
use Rattle.std.proofs.Common.{◌≡◌, ◌≢◌, ◌+◌, refl, ℕ, List, [], ◌∷◌, Option, Some, Result, Ok, Err, true}
use Rattle.port_model.specs.Calls.{after_reset, after_set, after_stop}
use Rattle.port_model.specs.History.{Reset, Set, Stop}
use Rattle.port_model.specs.Port.{remove_from, set_in}
use Rattle.port_model.specs.declared.error.PortError.{PortError}
use Rattle.port_model.specs.declared.error.PortError.TheVariants.{SetsSpent}
use Rattle.port_model.specs.declared.values.pid.Pid.TheVariants.{Of}
use Rattle.port_model.specs.declared.plain_port.TheConstants.{MOST_SETS}
use Rattle.port_model.specs.declared.values.timer_key.TimerKey.{TimerKey}
use Rattle.port_model.specs.declared.values.value.Value.{Value}
use Rattle.run_record.specs.Environment.{Environment, environment}
use Rattle.run_record.specs.Value.{at_place, key_at, value_of, values_at}
use Rattle.run_record.specs.Event as event
use Rattle.run_semantics.proofs.Deeds.{may_reach}
use Rattle.run_semantics.proofs.Goes.{All-one, goes_deed, goes_stopped, goes_until}
use Rattle.run_semantics.specs.Effect.{Effect, Arm, Deed, Send}
use Rattle.run_semantics.specs.Fails.{parameters_of, sent_by, set_by}
use Rattle.run_semantics.specs.Goes.{AreInner, Goes, IsInner, MachineValue, with_event}
use Rattle.run_semantics.specs.Leads.{created, offspring_of}
use Rattle.run_semantics.specs.ControlPoint.{Amid, Definition, Doing, Ended, In, IsState, ControlPoint}
use Rattle.run_semantics.specs.Reception.{assigned, sort_in}
use Rattle.run_semantics.specs.World.{IsNumber, IsRoute, MayReach, WorldValue, after_effect, after_effects}
use Rattle.sdl_system.specs.Body as body
use Rattle.sdl_system.specs.Body.{Assigning, Body, Whither}
use Rattle.sdl_system.specs.Term.{Term}
use Rattle.sdl_system.specs.declared.id.ProcessId.{ProcessId}
use Rattle.sdl_system.specs.declared.id.StateId.{StateId}
use Rattle.sdl_system.specs.declared.route.Dest.{Dest}
use Rattle.sdl_system.specs.declared.route.Target.{Target}

inner : (deed : Deed) → IsInner deed.event → AreInner (deed ∷ [])
inner deed is = All-one (λ (one : Deed). IsInner one.event) deed is

abbrev here_of : Definition → MachineValue → Environment
here_of d m = environment d.system m.who m.store m.owner.state

-- a set that isn't refused has a number
pub numbered_by : {A : Type 0} (sets : ℕ) (given : A)
    → (sets ≡ MOST_SETS → ◌≡◌ {A = Result A PortError} (Ok given) (Err SetsSpent)) → sets ≢ MOST_SETS
numbered_by {A} sets given spent is =
    let told : ◌≡◌ {A = Result A PortError} (Ok given) (Err SetsSpent) = spent is in
    let wrong : ⊥ = cc in
    wrong

module _ (d : Definition) (origin : Option StateId) (rest : Body) where
  pub goes_assigned : (one : Assigning) (more : List Assigning) (value : Value) (m n : MachineValue) (w : WorldValue)
      → at_place (sort_in d.behaviour one.variable) (value_of (here_of d m) one.value) ≡ Ok value
      → n ≡ with_event (record m { store = assigned one.variable value m.store }) (event.Task one.variable value)
      → Goes AreInner d (Amid origin (body.task (one ∷ more)) rest) m w (Amid origin (body.task more) rest) n w
  goes_assigned one more value m n w found is =
      let from : ControlPoint = Amid origin (body.task (one ∷ more)) rest in
      let to : ControlPoint = Amid origin (body.task more) rest in
      let k : MachineValue = record m { store = assigned one.variable value m.store } in
      let deed : Deed = record { event = event.Task one.variable value; calls = []; effects = [] } in
      goes_until d AreInner from to m (with_event k deed.event) n w w w is refl
      (goes_deed d AreInner from to m k w deed (inner deed tt) refl refl refl refl refl refl refl refl tt
      (refl, refl, refl, record { is = refl; evaluated = found; store = refl }) refl (λ seen. absurd seen) (λ all. all))

  pub goes_sent : (to : Option Whither) (one : body.Sending) (more : List body.Sending) (named : Dest)
      (values : List Value) (target : Target) (m n : MachineValue) (w v : WorldValue)
      → sent_by d.system (here_of d m) to one ≡ Ok (named, values)
      → IsRoute d.system w one.signal m.who.process named target
      → v ≡ after_effect w (Send target (record { name = one.signal; values = values; sender = Of m.who.pid }))
      → n ≡ with_event m (event.Output one.signal named values target)
      → Goes AreInner d (Amid origin (body.output (one ∷ more) to) rest) m w (Amid origin (body.output more to) rest) n
      v
  goes_sent to one more named values target m n w v found route sent is =
      let from : ControlPoint = Amid origin (body.output (one ∷ more) to) rest in
      let then : ControlPoint = Amid origin (body.output more to) rest in
      let effect : Effect = Send target (record { name = one.signal; values = values; sender = Of m.who.pid }) in
      let deed : Deed =
      record { event = event.Output one.signal named values target; calls = []; effects = effect ∷ [] } in
      let reached : MayReach d.system one.signal m.who.process named target =
      may_reach d.system w.living one.signal m.who.process named target route in
      goes_until d AreInner from then m (with_event m deed.event) n w (after_effect w effect) v is sent
      (goes_deed d AreInner from then m m w deed (inner deed tt) refl refl refl refl refl refl refl refl route
      (refl, refl, refl, record { is = refl; evaluated = found; reached = reached; effects_are = refl }) refl
      (λ seen. absurd seen)
      (λ all. all))

  pub goes_set : (one : body.Setting) (more : List body.Setting) (key : TimerKey) (due : ℕ) (m n : MachineValue)
      (w v : WorldValue) → m.owner.state.alive ≡ true → m.owner.state.sets ≢ MOST_SETS
      → set_by (here_of d m) one ≡ Ok (due, key)
      → v ≡ after_effect w (Arm (record { pid = m.who.pid; key = key; arm = m.owner.state.sets + 1; due = due }))
      → n ≡ with_event (record m { owner = after_set m.owner key due }) (event.Set key due)
      → Goes AreInner d (Amid origin (body.set (one ∷ more)) rest) m w (Amid origin (body.set more) rest) n v
  goes_set one more key due m n w v alive numbered found armed is =
      let from : ControlPoint = Amid origin (body.set (one ∷ more)) rest in
      let to : ControlPoint = Amid origin (body.set more) rest in
      let k : MachineValue = record m { owner = after_set m.owner key due } in
      let arm : ℕ = m.owner.state.sets + 1 in
      let effect : Effect = Arm (record { pid = m.who.pid; key = key; arm = arm; due = due }) in
      let deed : Deed = record { event = event.Set key due; calls = Set key due arm ∷ []; effects = effect ∷ [] } in
      goes_until d AreInner from to m (with_event k deed.event) n w (after_effect w effect) v is armed
      (goes_deed d AreInner from to m k w deed (inner deed tt) refl refl refl refl refl refl refl refl tt
      (refl, refl, record { evaluated = found; numbered = numbered; calls_are = refl; effects_are = refl })
      (set_in m.owner.state key due, (alive, refl, refl), refl) (λ seen. absurd seen) (λ all. all))

  pub goes_reset : (one : body.Timing) (more : List body.Timing) (key : TimerKey) (m n : MachineValue) (w : WorldValue)
      → m.owner.state.alive ≡ true → key_at (here_of d m) one.timer one.values ≡ Ok key
      → n ≡ with_event (record m { owner = after_reset m.owner key }) (event.Reset key)
      → Goes AreInner d (Amid origin (body.reset (one ∷ more)) rest) m w (Amid origin (body.reset more) rest) n w
  goes_reset one more key m n w alive found is =
      let from : ControlPoint = Amid origin (body.reset (one ∷ more)) rest in
      let to : ControlPoint = Amid origin (body.reset more) rest in
      let k : MachineValue = record m { owner = after_reset m.owner key } in
      let deed : Deed = record { event = event.Reset key; calls = Reset key ∷ []; effects = [] } in
      goes_until d AreInner from to m (with_event k deed.event) n w w w is refl
      (goes_deed d AreInner from to m k w deed (inner deed tt) refl refl refl refl refl refl refl refl tt
      (refl, refl, refl, refl, found)
      (remove_from m.owner.state key, (alive, refl), refl) (λ seen. absurd seen) (λ all. all))

  pub goes_created : (process : ProcessId) (terms : List Term) (values : List Value) (number : Option ℕ)
      (m n : MachineValue) (w v : WorldValue)
      → values_at (here_of d m) (parameters_of d.system process) terms ≡ Ok values → IsNumber w process number
      → v ≡ after_effects w (created process m.who.pid values number)
      → n ≡ with_event (record m { store = record m.store { offspring = offspring_of number } })
      (event.Create process number)
      → Goes AreInner d (Amid origin (body.create process terms) rest) m w (Doing origin rest) n v
  goes_created process terms values number m n w v found gives made is =
      let from : ControlPoint = Amid origin (body.create process terms) rest in
      let k : MachineValue = record m { store = record m.store { offspring = offspring_of number } } in
      let effects : List Effect = created process m.who.pid values number in
      let deed : Deed = record { event = event.Create process number; calls = []; effects = effects } in
      goes_until d AreInner from (Doing origin rest) m (with_event k deed.event) n w (after_effects w effects) v is made
      (goes_deed d AreInner from (Doing origin rest) m k w deed (inner deed tt) refl refl refl refl refl refl refl refl
      gives
      (refl, refl, refl, record { values = values; evaluated = found; effects_are = refl; store = refl }) refl
      (λ seen. absurd seen) (λ all. all))

module _ (d : Definition) where
  pub goes_to_state : (origin : Option StateId) (state : StateId) (m n : MachineValue) (w : WorldValue)
      → IsState d state → n ≡ with_event m (event.NextState state)
      → Goes AreInner d (Doing origin (body.ending (body.to_state state))) m w (In state) n w
  goes_to_state origin state m n w there is =
      let from : ControlPoint = Doing origin (body.ending (body.to_state state)) in
      let deed : Deed = record { event = event.NextState state; calls = []; effects = [] } in
      goes_until d AreInner from (In state) m (with_event m deed.event) n w w w is refl
      (goes_deed d AreInner from (In state) m m w deed (inner deed tt) refl refl refl refl refl refl refl refl tt
      (refl, refl, refl, refl, refl, there) refl (λ seen. absurd seen) (λ all. all))

  pub goes_to_same : (state : StateId) (m n : MachineValue) (w : WorldValue) → IsState d state
      → n ≡ with_event m (event.NextState state)
      → Goes AreInner d (Doing (Some state) (body.ending body.to_same)) m w (In state) n w
  goes_to_same state m n w there is =
      let from : ControlPoint = Doing (Some state) (body.ending body.to_same) in
      let deed : Deed = record { event = event.NextState state; calls = []; effects = [] } in
      goes_until d AreInner from (In state) m (with_event m deed.event) n w w w is refl
      (goes_deed d AreInner from (In state) m m w deed (inner deed tt) refl refl refl refl refl refl refl refl tt
      (refl, refl, refl, refl, refl, there) refl (λ seen. absurd seen) (λ all. all))

  pub goes_ended : (origin : Option StateId) (m n : MachineValue) (w : WorldValue) → m.owner.state.alive ≡ true
      → n ≡ with_event (record m { owner = after_stop m.owner }) event.Stop
      → Goes AreInner d (Doing origin (body.ending body.stop)) m w Ended n w
  goes_ended origin m n w alive is =
      let from : ControlPoint = Doing origin (body.ending body.stop) in
      let deed : Deed = record { event = event.Stop; calls = Stop ∷ []; effects = [] } in
      let k : MachineValue = with_event (record m { owner = after_stop m.owner }) event.Stop in
      goes_until d AreInner from Ended m k n w w w is refl
      (goes_stopped d AreInner from Ended m m w deed (inner deed tt) alive refl refl refl refl tt
      (refl, refl, refl, refl))
