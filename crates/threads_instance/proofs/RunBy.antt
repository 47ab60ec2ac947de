-- What is known of how a run began and what it has done stays so: as an instance is made, in a step, and as it is closed.
use Rattle.std.proofs.Common.{◌≡◌, ◌∙◌, ap, append-nil, append_assoc, refl, subst, sym, inl, inr, ℕ, Bool, true, false, IsTrue, List, [], ◌∷◌, ◌++◌, Option, None, Some, drop, map}
use Rattle.std.proofs.lemmas.Option.{same_Some}
use Rattle.std.specs.Option.{option_map}
use Rattle.port_model.specs.Ends.{OwnerState}
use Rattle.port_model.specs.declared.inbox.placed.Placed.{Placed}
use Rattle.port_model.specs.History.{PortEvent}
use Rattle.port_model.specs.Port.{empty_port}
use Rattle.port_model.specs.declared.values.item.Item.{Item}
use Rattle.port_model.specs.declared.values.value.Value.{Value}
use Rattle.run_record.specs.declared.evaluation.identity.Identity.{Identity}
use Rattle.run_record.specs.declared.evaluation.store.Store.{Store}
use Rattle.run_record.specs.Event as event
use Rattle.run_record.specs.Event.{Event}
use Rattle.run_semantics.proofs.Deeds.{after_deeds-effects, effects_of-append, events_of-append}
use Rattle.run_semantics.proofs.Outside.{drawn_as-append, outside_of-append}
use Rattle.run_semantics.proofs.Runs.{Runs-append}
use Rattle.run_semantics.specs.ControlPoint.{AtStart, Closed, ControlPoint, Definition, In}
use Rattle.run_semantics.specs.Effect.{Deed, Effect, effects_of, events_of}
use Rattle.run_semantics.specs.Goes.{Goes, IsOneStep, MachineValue, Waits, drawn_as}
use Rattle.run_semantics.specs.Instance.{first_store, first_variables, parameters_from}
use Rattle.run_semantics.specs.Leads.{Leads}
use Rattle.run_semantics.specs.Runs.{Runs, acts, outside_of, still}
use Rattle.run_semantics.specs.World.{WorldValue, after_deeds, after_effect, after_effects}
use Rattle.sdl_interp.specs.Machine.{place_of}
use Rattle.sdl_interp.specs.Work.{IsOf}
use Rattle.sdl_interp.specs.declared.transitions.machine.Position.{Position}
use Rattle.sdl_interp.specs.declared.transitions.machine.Position.TheVariants as at
use Rattle.sdl_interp.specs.Instance.{EndsBy, InstanceValue, IsIdle, IsQuietAt, IsRunAs, Keeps, Moves, Steps, closed, closing, created, variables_from, work_of}
use Rattle.sdl_interp.specs.Stimulus.{WaitsAt}
use Rattle.sdl_interp.specs.declared.instance.Stepped.{Stepped}
use Rattle.sdl_interp.specs.declared.instance.Stepped.TheVariants as stepped
use Rattle.sdl_system.specs.Behaviour.{Behaviour, Means, VariableMeaning, variable_meaning}
use Rattle.sdl_system.specs.System.{SystemValue}
use Rattle.sdl_system.specs.declared.id.StateId.{StateId}
use Rattle.sdl_system.specs.declared.process.Process.{Process}
use Rattle.sdl_system.specs.declared.process.Variable.{Variable}
use Rattle.threads_instance.specs.RunBy.{HasRunBy, IsRunBy}
use Rattle.threads_instance.specs.ThreadWorld.{world_of}

-- ---- what comes from outside

-- is drawn, of one history and then another
outside_on : (shared : Bool) (old new : OwnerState) (news : List Placed) (history more : List PortEvent)
    → (shared ≡ true → outside_of history ≡ drawn_as old.pid old.drawn) → new.pid ≡ old.pid
    → new.drawn ≡ old.drawn ++ news → outside_of more ≡ drawn_as old.pid news
    → shared ≡ true → outside_of (history ++ more) ≡ drawn_as new.pid new.drawn
outside_on shared old new news history more before pid drawn outside is_shared =
    outside_of-append history more
    ∙ ap (λ (events : List PortEvent). events ++ outside_of more) (before is_shared)
    ∙ ap (λ (events : List PortEvent). drawn_as old.pid old.drawn ++ events) outside
    ∙ sym (drawn_as-append old.pid old.drawn news)
    ∙ ap (λ (list : List Placed). drawn_as old.pid list) (sym drawn)
    ∙ ap (λ pid. drawn_as pid new.drawn) (sym pid)

-- ---- one run

module _ (d : Definition) (shared : Bool) (given : List Value) where
  -- what goes on has done what it did before, and this
  pub by_goes : (Shape : List Deed → Type 0) (from to : ControlPoint) (m n : MachineValue) (w v : WorldValue)
      (effects : List Effect) → IsRunBy shared d m.who m.events from m.store m.owner given effects
      → (goes : Goes Shape d from m w to n v)
      → IsRunBy shared d n.who n.events to n.store n.owner given (effects ++ effects_of goes.deeds)
  by_goes Shape from to m n w v effects by goes =
      let run = by.run in
      record {
        run = record {
          values = run.values;
          deeds = run.deeds ++ goes.deeds;
          history = run.history ++ goes.history;
          recorded = goes.recorded ∙ ap (λ (events : List Event). events ++ events_of goes.deeds) run.recorded
              ∙ sym (events_of-append run.deeds goes.deeds);
          outside = outside_on shared m.owner n.owner goes.news run.history goes.history run.outside goes.pid goes.drawn
              goes.outside;
          runs = subst (λ (who : Identity). Runs d who AtStart (first_store d.behaviour run.values) empty_port
              (run.deeds ++ goes.deeds) (run.history ++ goes.history) to n.store n.owner.state) (sym goes.who)
              (Runs-append d m.who AtStart (first_store d.behaviour run.values) empty_port run.deeds run.history from
              m.store m.owner.state run.runs goes.runs);
        };
        begins = by.begins;
        does = effects_of-append run.deeds goes.deeds
            ∙ ap (λ (l : List Effect). l ++ effects_of goes.deeds) by.does;
      }

  -- and what waits, what it did before
  pub by_waits : (state : StateId) (m n : MachineValue) (w v : WorldValue) (effects : List Effect)
      → IsRunBy shared d m.who m.events (In state) m.store m.owner given effects → Waits d state m w n v
      → IsRunBy shared d n.who n.events (In state) n.store n.owner given effects
  by_waits state m n w v effects by waits =
      let run = by.run in
      let start : Store = first_store d.behaviour run.values in
      record {
        run = record {
          values = run.values;
          deeds = run.deeds;
          history = run.history ++ waits.history;
          recorded = waits.recorded ∙ run.recorded;
          outside = outside_on shared m.owner n.owner waits.news run.history waits.history run.outside waits.pid
              waits.drawn waits.outside;
          runs = rw (waits.who, waits.store, ← append-nil run.deeds)
              (Runs-append d m.who AtStart start empty_port run.deeds run.history (In state) m.store m.owner.state
              run.runs waits.runs);
        };
        begins = by.begins;
        does = by.does;
      }

  -- an event that closes the record does nothing outside
  by_closes : (who : Identity) (events recorded : List Event) (place : ControlPoint) (s : Store) (owner : OwnerState)
      (happened : Event) (effects : List Effect) → IsRunBy shared d who events place s owner given effects
      → Leads d who owner.state place s (record { event = happened; calls = []; effects = [] }) Closed s
      → recorded ≡ events ++ happened ∷ [] → IsRunBy shared d who recorded Closed s owner given effects
  by_closes who events recorded place s owner happened effects by leads is =
      let run = by.run in
      let deed : Deed = record { event = happened; calls = []; effects = [] } in
      record {
        run = record {
          values = run.values;
          deeds = run.deeds ++ deed ∷ [];
          history = run.history ++ [];
          recorded = is ∙ ap (λ (events : List Event). events ++ happened ∷ []) run.recorded
              ∙ sym (events_of-append run.deeds (deed ∷ []));
          outside = λ is_shared. ap (λ (history : List PortEvent). outside_of history) (append-nil run.history)
              ∙ run.outside is_shared;
          runs = acts run.runs deed Closed s owner.state leads refl;
        };
        begins = by.begins;
        does = effects_of-append run.deeds (deed ∷ []) ∙ append-nil (effects_of run.deeds) ∙ by.does;
      }

  -- a record that is closed
  pub by_closed : (whole : Bool) (position : Position) (i : InstanceValue) (recorded : List Event)
      (effects : List Effect) → (IsTrue whole → IsQuietAt d position i)
      → recorded ≡ i.events ++ closing whole position
      → IsRunBy shared d i.who i.events (place_of position) i.store i.owner given effects
      → IsRunBy shared d i.who recorded (closed position) i.store i.owner given effects
  by_closed whole at.BeforeStart i recorded effects quiet is by =
      by_closes i.who i.events recorded AtStart i.store i.owner (event.Cut None) effects by
      (refl, refl, refl, refl, refl) is
  by_closed true (at.In n) i recorded effects quiet is by =
      by_closes i.who i.events recorded (In n) i.store i.owner (event.Rest n) effects by
      (refl, refl, refl, refl, refl, quiet refl) is
  by_closed false (at.In n) i recorded effects quiet is by =
      by_closes i.who i.events recorded (In n) i.store i.owner (event.Cut (Some n)) effects by
      (refl, refl, refl, refl, refl) is
  by_closed whole at.Ended i recorded effects quiet is by =
      subst (λ (events : List Event).
      IsRunBy shared d i.who events (place_of at.Ended) i.store i.owner given effects)
      (sym (is ∙ append-nil i.events)) by

-- ---- the beginning

initials : (xs : List Variable)
    → map (λ (v : VariableMeaning). v.initial) (map variable_meaning xs) ≡ map (λ (v : Variable). v.initial) xs
initials [] = refl
initials (x ∷ xs) = ap (λ (rest : List (Option Value)). x.initial ∷ rest) (initials xs)

-- the variables before the start, by the process, are those by what it means
variables_mean : (process : Process) (p : Behaviour) → Means process p → (values : List Value)
    → variables_from process values ≡ first_variables p values
variables_mean process p means values =
    ap (λ (list : List (Option Value)).
    parameters_from process.parameters values ++ drop process.parameters list)
    (sym (initials process.variables.items)
    ∙ ap (λ (list : List VariableMeaning). map (λ (v : VariableMeaning). v.initial) list) means.variables_are)
    ∙ ap (λ (n : ℕ).
    parameters_from n values ++ drop n (map (λ (v : VariableMeaning). v.initial) p.variables)) means.parameters_are

-- an instance that has just been made, with these values
pub created_by : (shared : Bool) (system : SystemValue) (process : Process) (who : Identity) (values : List Value)
    (owner : OwnerState) → owner.state ≡ empty_port → owner.drawn ≡ []
    → HasRunBy shared (created system process who values owner) values []
created_by shared system process who values owner empty undrawn d is = record {
  run = record {
    values = values;
    deeds = [];
    history = [];
    recorded = refl;
    outside = λ is_shared. ap (λ (list : List Placed). drawn_as owner.pid list) (sym undrawn);
    runs = rw (variables_mean process d.behaviour is.behaves.means values, empty) still;
  };
  begins = refl;
  does = refl;
}

-- ---- what is known to be done

effects_after : (w : WorldValue) (performed done : List Effect) → w.effects ≡ Some done
    → (after_effects w performed).effects ≡ Some (done ++ performed)
effects_after w [] done is = is ∙ ap (λ (l : List Effect). Some l) (sym (append-nil done))
effects_after w (effect ∷ rest) done is =
    effects_after (after_effect w effect) rest (done ++ effect ∷ [])
    (ap (λ (o : Option (List Effect)). option_map (λ (l : List Effect). l ++ effect ∷ []) o) is)
    ∙ ap (λ (l : List Effect). Some l) (append_assoc done (effect ∷ []) rest)

deeds_after : (w : WorldValue) (deeds : List Deed) (done : List Effect) → w.effects ≡ Some done
    → (after_deeds w deeds).effects ≡ Some (done ++ effects_of deeds)
deeds_after w deeds done is =
    ap (λ (v : WorldValue). v.effects) (after_deeds-effects w deeds) ∙ effects_after w (effects_of deeds) done is

-- ---- a step

module _ (shared : Bool) (given : List Value) (old new : InstanceValue) (sent later : List (ℕ × Item))
    (before after : List Effect) (keeps : Keeps old new) (by : HasRunBy shared old given before) (system : SystemValue)
    (time : ℕ) where
  abbrev start : WorldValue
  start = world_of system time sent before

  abbrev end : WorldValue
  end = world_of system time later after

  was_run : (d : Definition) → IsRunAs new d → IsRunAs old d
  was_run d is_run = subst (λ (system : SystemValue). IsOf system old.process d) keeps.system
      (subst (λ (process : Process). IsOf new.system process d) keeps.process is_run)

  moved : (counts : Bool) → Moves counts old start new end → HasRunBy shared new given after
  moved counts moves = λ d is_run.
      let was : IsRunAs old d = was_run d is_run in
      let goes : Goes (IsOneStep counts) d (place_of old.position) (work_of old) start (place_of new.position)
      (work_of new) end = moves d was in
      let all : after ≡ before ++ effects_of goes.deeds =
      same_Some after (before ++ effects_of goes.deeds)
      (ap (λ (w : WorldValue). w.effects) goes.world ∙ deeds_after start goes.deeds before refl) in
      subst (λ (l : List Effect).
      IsRunBy shared d new.who new.events (place_of new.position) new.store new.owner given l) (sym all)
      (by_goes d shared given (IsOneStep counts) (place_of old.position) (place_of new.position) (work_of old)
      (work_of new) start end before (by d was) goes)

  -- who waits has done nothing
  waited : (d : Definition) (position : Position)
      → IsRunBy shared d old.who old.events (place_of position) old.store old.owner given before
      → WaitsAt d position (work_of old) start (work_of new) end
      → IsRunBy shared d new.who new.events (place_of position) new.store new.owner given after
  waited d at.BeforeStart was waits = absurd waits
  waited d (at.In state) was waits =
      let same : after ≡ before = same_Some after before (ap (λ (w : WorldValue). w.effects) waits.world) in
      subst (λ (l : List Effect).
      IsRunBy shared d new.who new.events (In state) new.store new.owner given l) (sym same)
      (by_waits d shared given state (work_of old) (work_of new) start end before was waits)
  waited d at.Ended was waits = absurd waits

  idled : IsIdle old start new end → HasRunBy shared new given after
  idled idle = λ d is_run.
      let was : IsRunAs old d = was_run d is_run in
      subst (λ (position : Position).
      IsRunBy shared d new.who new.events (place_of position) new.store new.owner given after) (sym idle.0)
      (waited d old.position (by d was) (idle.1 d was))

  stayed : new ≡ old → end ≡ start → HasRunBy shared new given after
  stayed same same_world =
      let none : after ≡ before = same_Some after before (ap (λ (w : WorldValue). w.effects) same_world) in
      subst (λ (l : List Effect). HasRunBy shared new given l) (sym none)
      (subst (λ (i : InstanceValue). HasRunBy shared i given before) (sym same) by)

  ended : (counts : Bool) → EndsBy counts old start new end → HasRunBy shared new given after
  ended counts ends = elim ends [
    | inl over ↦ stayed over.1 over.2
    | inr made ↦ moved counts made.2
  ]

  pub steps_by : (result : Stepped) → Steps result old start new end → HasRunBy shared new given after
  steps_by stepped.Moved steps = moved true steps.0
  steps_by stepped.Idle steps = idled steps
  steps_by (stepped.Ended counts) steps = ended counts steps
