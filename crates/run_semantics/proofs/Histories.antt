-- All that an instance did is a run: at its beginning, after a step, while it waits, and as its record is closed.
use Rattle.std.proofs.Common.{◌≡◌, ◌∙◌, sym, ap, subst, refl, ℕ, Bool, true, false, List, [], ◌∷◌, ◌++◌, None, Some, append-nil}
use Rattle.std.proofs.lemmas.Bool.{false≢true}
use Rattle.port_model.specs.Ends.{OwnerState}
use Rattle.port_model.specs.declared.inbox.placed.Placed.{Placed}
use Rattle.port_model.specs.History.{Expire, PortEvent, PortStep, Put}
use Rattle.port_model.specs.Laws.{IsFromOutside}
use Rattle.port_model.specs.Port.{PortState, empty_port, expire_in, put_into}
use Rattle.port_model.specs.declared.values.item.Item.{Item}
use Rattle.port_model.specs.declared.selection.Class.{Class}
use Rattle.port_model.specs.declared.values.timer_key.TimerKey.{TimerKey}
use Rattle.port_model.specs.declared.values.value.Value.{Value}
use Rattle.run_record.specs.declared.evaluation.identity.Identity.{Identity}
use Rattle.run_record.specs.declared.evaluation.store.Store.{Store}
use Rattle.run_record.specs.Event.{Event}
use Rattle.run_record.specs.Event as event
use Rattle.run_semantics.proofs.Deeds.{events_of-append}
use Rattle.run_semantics.proofs.Outside.{drawn_as-append, outside_of-append}
use Rattle.run_semantics.proofs.Runs.{Runs-append}
use Rattle.run_semantics.specs.Effect.{Deed, events_of}
use Rattle.run_semantics.specs.Goes.{Goes, MachineValue, Waits, drawn_as}
use Rattle.run_semantics.specs.Instance.{HasRun, first_store}
use Rattle.run_semantics.specs.Leads.{IsQuiet, Leads}
use Rattle.run_semantics.specs.ControlPoint.{AtStart, Closed, Definition, In, ControlPoint}
use Rattle.run_semantics.specs.Runs.{Runs, acts, hears, outside_of, still}
use Rattle.run_semantics.specs.World.{WorldValue}
use Rattle.sdl_system.specs.declared.id.StateId.{StateId}

-- what comes from outside is drawn, of one history and then another
outside_on : (shared : Bool) (old new : OwnerState) (news : List Placed) (history more : List PortEvent)
    → (shared ≡ true → outside_of history ≡ drawn_as old.pid old.drawn) → new.pid ≡ old.pid
    → new.drawn ≡ old.drawn ++ news → outside_of more ≡ drawn_as old.pid news
    → shared ≡ true → outside_of (history ++ more) ≡ drawn_as new.pid new.drawn
outside_on shared old new news history more before pid drawn outside is_shared =
    outside_of-append history more
    ∙ ap (λ (events : List PortEvent). events ++ outside_of more) (before is_shared)
    ∙ ap (λ (events : List PortEvent). drawn_as old.pid old.drawn ++ events) outside
    ∙ sym (drawn_as-append old.pid old.drawn news)
    ∙ ap (λ (list : List Placed). drawn_as old.pid list) (sym drawn)
    ∙ ap (λ pid. drawn_as pid new.drawn) (sym pid)

module _ (d : Definition) where
  -- an instance that has just been made, with these values
  pub run_begins : (shared : Bool) (who : Identity) (events : List Event) (s : Store) (owner : OwnerState)
      (values : List Value) → events ≡ [] → s ≡ first_store d.behaviour values → owner.state ≡ empty_port
      → owner.drawn ≡ [] → HasRun shared d who events AtStart s owner
  run_begins shared who events s owner values none initial empty undrawn = record {
    values = values;
    deeds = [];
    history = [];
    recorded = none;
    outside = λ is_shared. ap (λ (list : List Placed). drawn_as owner.pid list) (sym undrawn);
    runs = rw (initial, empty) still;
  }

  -- what goes on has run
  pub run_goes : (shared : Bool) (Shape : List Deed → Type 0) (from to : ControlPoint) (m n : MachineValue) (w v : WorldValue)
      → HasRun shared d m.who m.events from m.store m.owner → Goes Shape d from m w to n v
      → HasRun shared d n.who n.events to n.store n.owner
  run_goes shared Shape from to m n w v run goes = record {
    values = run.values;
    deeds = run.deeds ++ goes.deeds;
    history = run.history ++ goes.history;
    recorded = goes.recorded ∙ ap (λ (events : List Event). events ++ events_of goes.deeds) run.recorded
        ∙ sym (events_of-append run.deeds goes.deeds);
    outside = outside_on shared m.owner n.owner goes.news run.history goes.history run.outside goes.pid goes.drawn
        goes.outside;
    runs = subst (λ (who : Identity). Runs d who AtStart (first_store d.behaviour run.values) empty_port
        (run.deeds ++ goes.deeds) (run.history ++ goes.history) to n.store n.owner.state) (sym goes.who)
        (Runs-append d m.who AtStart (first_store d.behaviour run.values) empty_port run.deeds run.history from m.store
        m.owner.state run.runs goes.runs);
  }

  -- and what waits
  pub run_waits : (shared : Bool) (state : StateId) (m n : MachineValue) (w v : WorldValue)
      → HasRun shared d m.who m.events (In state) m.store m.owner → Waits d state m w n v
      → HasRun shared d n.who n.events (In state) n.store n.owner
  run_waits shared state m n w v run waits =
      let start : Store = first_store d.behaviour run.values in
      record {
        values = run.values;
        deeds = run.deeds;
        history = run.history ++ waits.history;
        recorded = waits.recorded ∙ run.recorded;
        outside = outside_on shared m.owner n.owner waits.news run.history waits.history run.outside waits.pid
            waits.drawn waits.outside;
        runs = rw (waits.who, waits.store, ← append-nil run.deeds)
            (Runs-append d m.who AtStart start empty_port run.deeds run.history (In state) m.store m.owner.state
            run.runs waits.runs);
      }

  -- ---- a record that is closed

  -- an event with no call of the port, and nothing done outside
  run_closes : (shared : Bool) (who : Identity) (events recorded : List Event) (at : ControlPoint) (s : Store)
      (owner : OwnerState) (happened : Event) → HasRun shared d who events at s owner
      → Leads d who owner.state at s (record { event = happened; calls = []; effects = [] }) Closed s
      → recorded ≡ events ++ happened ∷ [] → HasRun shared d who recorded Closed s owner
  run_closes shared who events recorded at s owner happened run leads is =
      let deed : Deed = record { event = happened; calls = []; effects = [] } in
      record {
        values = run.values;
        deeds = run.deeds ++ deed ∷ [];
        history = run.history ++ [];
        recorded = is ∙ ap (λ (events : List Event). events ++ happened ∷ []) run.recorded
            ∙ sym (events_of-append run.deeds (deed ∷ []));
        outside = λ is_shared. ap (λ (history : List PortEvent). outside_of history) (append-nil run.history)
            ∙ run.outside is_shared;
        runs = acts run.runs deed Closed s owner.state leads refl;
      }

  -- in a state in which nothing is left to do
  pub run_rests : (shared : Bool) (who : Identity) (events recorded : List Event) (n : StateId) (s : Store)
      (owner : OwnerState) (classes : List Class) → HasRun shared d who events (In n) s owner
      → IsQuiet d who owner.state n s classes → recorded ≡ events ++ event.Rest n ∷ []
      → HasRun shared d who recorded Closed s owner
  run_rests shared who events recorded n s owner classes run quiet is =
      run_closes shared who events recorded (In n) s owner (event.Rest n) run
      (refl, refl, refl, refl, refl, (classes, quiet)) is

  -- cut off in a state
  pub run_cut : (shared : Bool) (who : Identity) (events recorded : List Event) (n : StateId) (s : Store)
      (owner : OwnerState) → HasRun shared d who events (In n) s owner
      → recorded ≡ events ++ event.Cut (Some n) ∷ [] → HasRun shared d who recorded Closed s owner
  run_cut shared who events recorded n s owner run is =
      run_closes shared who events recorded (In n) s owner (event.Cut (Some n)) run (refl, refl, refl, refl, refl) is

  -- and before the start
  pub run_unstarted : (shared : Bool) (who : Identity) (events recorded : List Event) (s : Store) (owner : OwnerState)
      → HasRun shared d who events AtStart s owner → recorded ≡ events ++ event.Cut None ∷ []
      → HasRun shared d who recorded Closed s owner
  run_unstarted shared who events recorded s owner run is =
      run_closes shared who events recorded AtStart s owner (event.Cut None) run (refl, refl, refl, refl, refl) is

  -- ---- a port for one thread: what comes is heard at once

  pub run_hears : (shared : Bool) (who : Identity) (events : List Event) (at : ControlPoint) (s : Store) (owner : OwnerState)
      (heard : PortEvent) (port : PortState) → shared ≡ false → IsFromOutside heard → PortStep owner.state heard port
      → HasRun shared d who events at s owner → HasRun shared d who events at s (record owner { state = port })
  run_hears shared who events at s owner heard port alone outside step run = record {
    values = run.values;
    deeds = run.deeds;
    history = run.history ++ heard ∷ [];
    recorded = run.recorded;
    outside = λ is_shared. absurd (false≢true (sym alone ∙ is_shared));
    runs = hears run.runs heard port outside step;
  }

  pub run_hears_put : (shared : Bool) (who : Identity) (events : List Event) (at : ControlPoint) (s : Store)
      (owner : OwnerState) (item : Item) → shared ≡ false → HasRun shared d who events at s owner
      → HasRun shared d who events at s (record owner { state = put_into owner.state item })
  run_hears_put shared who events at s owner item alone run =
      run_hears shared who events at s owner (Put item) (put_into owner.state item) alone tt refl run

  pub run_hears_expiry : (shared : Bool) (who : Identity) (events : List Event) (at : ControlPoint) (s : Store)
      (owner : OwnerState) (key : TimerKey) (arm due time : ℕ) → shared ≡ false → HasRun shared d who events at s owner
      → HasRun shared d who events at s (record owner { state = expire_in owner.state key arm due time })
  run_hears_expiry shared who events at s owner key arm due time alone run =
      run_hears shared who events at s owner (Expire key arm due time) (expire_in owner.state key arm due time) alone
      tt refl run
