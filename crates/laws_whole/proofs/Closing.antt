-- How the record of an instance closes: the run that it is, and the history of its port.
use Rattle.std.proofs.Common.{◌≡◌, ◌∙◌, ◌<◌, ap, append-nil, inl, inr, refl, subst, sym, ℕ, Bool, true, false, All, List, [], ◌∷◌, ◌++◌, None, Option, Some}
use Rattle.std.proofs.lemmas.List.Elements.{All-append, All-cons, All-nil, All-weaker}
use Rattle.laws_timers.specs.Fused.{AreFused, AreInTime, IsOfFuse}
use Rattle.laws_whole.proofs.Ending.{ends_in_end, runs_alive}
use Rattle.port_model.specs.declared.inbox.entry.Fuse.{Fuse}
use Rattle.port_model.specs.History.{Expire, PortEvent, Put, Reset, Set, Stop, Take}
use Rattle.port_model.specs.Port.{PortState, empty_port}
use Rattle.port_model.specs.declared.selection.Class.{Class}
use Rattle.port_model.specs.declared.taken.Taken.TheVariants.{Nothing}
use Rattle.port_model.specs.declared.timer.ActiveTimer.{ActiveTimer}
use Rattle.port_model.specs.declared.timer.Phase.{Phase}
use Rattle.port_model.specs.declared.timer.Phase.TheVariants.{Running, Waiting}
use Rattle.port_model.specs.declared.values.item.Item.{Item}
use Rattle.port_model.specs.declared.values.timer_key.TimerKey.{TimerKey}
use Rattle.port_model.specs.declared.values.value.Value.{Value}
use Rattle.run_record.specs.declared.evaluation.store.Store.{Store}
use Rattle.run_record.specs.Event as event
use Rattle.run_record.specs.Event.{Event}
use Rattle.run_record.specs.Record.{RecordValue}
use Rattle.run_semantics.proofs.Deeds.{events_of-append}
use Rattle.run_semantics.specs.ControlPoint as point
use Rattle.run_semantics.specs.ControlPoint.{AtStart, ControlPoint, Definition, In}
use Rattle.run_semantics.specs.Effect.{Deed, events_of}
use Rattle.run_semantics.specs.Instance.{first_store}
use Rattle.run_semantics.specs.Leads.{IsQuiet, Leads}
use Rattle.run_semantics.specs.Runs.{Runs, acts, waits}
use Rattle.sdl_interp.specs.Machine.{place_of}
use Rattle.sdl_interp.specs.declared.transitions.machine.Position.{Position}
use Rattle.sdl_interp.specs.declared.transitions.machine.Position.TheVariants as at
use Rattle.sdl_interp.specs.Instance.{closing}
use Rattle.sdl_system.specs.declared.id.StateId.{StateId}
use Rattle.settle_meaning.specs.Closed.{AreDueAfter, ClosesAs, EndsIn, IsDueAfter, IsEnd, IsExpiry}
use Rattle.settle_meaning.specs.Histories.{IsInTime, puts_of}
use Rattle.settle_meaning.specs.Identities.{identity_of}
use Rattle.settle_meaning.specs.MeaningLaws.{rest_deed}

-- at the end of a history there may be a take that found nothing
pub data IsMore (more : List PortEvent) : Type 0 where
  none : more ≡ [] → IsMore more
  one_take : (classes : List Class) → more ≡ Take classes Nothing ∷ [] → IsMore more

-- the deed by which the record closes of an instance that was cut
abbrev cut_deed : Option StateId → Deed
cut_deed state = record { event = event.Cut state; calls = []; effects = [] }

module _ (d : Definition) (end : ℕ) (trace : RecordValue) (values : List Value) (deeds : List Deed)
    (history : List PortEvent) (store : Store) (port : PortState) where
  -- all that it did up to here is a run to this place
  abbrev pub IsRunTo : ControlPoint → Type 0
  IsRunTo place =
      Runs d (identity_of trace) AtStart (first_store d.behaviour values) empty_port deeds history place store port

  -- the run of the whole record, which closes as it is to
  pub record Found (whole : Bool) : Type 0 where
    pub all : List Deed
    pub more : List PortEvent
    pub place : ControlPoint
    pub recorded : trace.events ≡ events_of all
    pub runs : Runs d (identity_of trace) AtStart (first_store d.behaviour values) empty_port all (history ++ more)
        place
        store port
    pub closes : ClosesAs whole end trace.events (history ++ more) port
    pub is_more : IsMore more

  ended_closes : (whole : Bool) (after : List PortEvent) → EndsIn IsEnd trace.events
      → ClosesAs whole end trace.events after port
  ended_closes true after ends = inl ends
  ended_closes false after ends = inl ends

  ended : (whole : Bool) → IsRunTo point.Ended → trace.events ≡ events_of deeds ++ [] → Found whole
  ended whole runs is =
      let recorded : trace.events ≡ events_of deeds = is ∙ append-nil (events_of deeds) in
      record {
        all = deeds;
        more = [];
        place = point.Ended;
        recorded = recorded;
        runs = subst (λ (l : List PortEvent). Runs d (identity_of trace) AtStart (first_store d.behaviour values)
            empty_port deeds l point.Ended store port) (sym (append-nil history)) runs;
        closes = ended_closes whole (history ++ [])
            (subst (λ (l : List Event). EndsIn IsEnd l) (sym recorded)
            (ends_in_end d (identity_of trace) AtStart (first_store d.behaviour values) empty_port refl runs refl));
        is_more = none refl;
      }

  cut : (state : Option StateId) (place : ControlPoint) → Leads d (identity_of trace) port place store (cut_deed state)
      point.Closed store → IsRunTo place → trace.events ≡ events_of deeds ++ event.Cut state ∷ [] → Found false
  cut state place leads runs is = record {
    all = deeds ++ cut_deed state ∷ [];
    more = [];
    place = point.Closed;
    recorded = is ∙ sym (events_of-append deeds (cut_deed state ∷ []));
    runs = acts runs (cut_deed state) point.Closed store port leads refl;
    closes = inr (record { before = events_of deeds; last = event.Cut state; events_are = is; is_so = tt });
    is_more = none refl;
  }

  rest : (n : StateId) (classes : List Class) → IsRunTo (In n) → IsQuiet d (identity_of trace) port n store classes
      → trace.events ≡ events_of deeds ++ event.Rest n ∷ [] → AreDueAfter end port.timers → Found true
  rest n classes runs quiet is due =
      let alive : port.alive ≡ true =
      runs_alive d (identity_of trace) AtStart (first_store d.behaviour values) empty_port refl runs refl in
      let after : List PortEvent = history ++ Take classes Nothing ∷ [] in
      record {
        all = deeds ++ rest_deed n ∷ [];
        more = Take classes Nothing ∷ [];
        place = point.Closed;
        recorded = is ∙ sym (events_of-append deeds (rest_deed n ∷ []));
        runs = subst (λ (l : List PortEvent). Runs d (identity_of trace) AtStart (first_store d.behaviour values)
            empty_port (deeds ++ rest_deed n ∷ []) l point.Closed store port) (append-nil after)
            (acts (waits runs classes quiet (alive, quiet.nothing)) (rest_deed n) point.Closed store port
            (refl, refl, refl, refl, refl, (classes, quiet)) refl);
        closes = inr (record {
          rest = record { before = events_of deeds; last = event.Rest n; events_are = is; is_so = tt };
          found = record {
            before = history;
            classes = classes;
            later = [];
            was = refl;
            expiries = All-nil IsExpiry;
          };
          timers = due;
        });
        is_more = one_take classes refl;
      }

  -- nothing can be taken there, and no continuous signal is true
  abbrev pub IsQuietTo : Position → Type 0
  IsQuietTo at.BeforeStart = ⊥
  IsQuietTo (at.In n) = (classes : List Class) × IsQuiet d (identity_of trace) port n store classes
  IsQuietTo at.Ended = Unit {0}

  pub found : (whole : Bool) (position : Position) → IsRunTo (place_of position)
      → trace.events ≡ events_of deeds ++ closing whole position → (whole ≡ true → IsQuietTo position)
      → (whole ≡ true → AreDueAfter end port.timers) → Found whole
  found true at.BeforeStart runs is quiet due = absurd (quiet refl)
  found false at.BeforeStart runs is quiet due = cut None AtStart (refl, refl, refl, refl, refl) runs is
  found true (at.In n) runs is quiet due =
      let still : (classes : List Class) × IsQuiet d (identity_of trace) port n store classes = quiet refl in
      rest n still.0 runs still.1 is (due refl)
  found false (at.In n) runs is quiet due = cut (Some n) (In n) (refl, refl, refl, refl, refl) runs is
  found true at.Ended runs is quiet due = ended true runs is
  found false at.Ended runs is quiet due = ended false runs is

-- ---- timers

-- no timer that runs is due by the end
due_one : (end pid : ℕ) (key : TimerKey) (phase : Phase) → IsOfFuse (λ (fuse : Fuse). end < fuse.due) pid key phase
    → IsDueAfter end phase
due_one end pid key (Running arm due) later = later
due_one end pid key (Waiting arm) later = tt

pub all_due : (end pid : ℕ) (timers : List ActiveTimer) → AreFused (λ (fuse : Fuse). end < fuse.due) pid timers
    → AreDueAfter end timers
all_due end pid timers fused =
    All-weaker (λ (timer : ActiveTimer). IsOfFuse (λ (fuse : Fuse). end < fuse.due) pid timer.key timer.phase)
    (λ (timer : ActiveTimer). IsDueAfter end timer.phase) (λ timer. due_one end pid timer.key timer.phase) timers fused

-- ---- times

all_in_time : (history : List PortEvent) → AreInTime history → All IsInTime history
all_in_time [] in_time = All-nil IsInTime
all_in_time (Put item ∷ rest) in_time = All-cons IsInTime (Put item) rest tt (all_in_time rest in_time)
all_in_time (Expire key arm due at ∷ rest) in_time =
    All-cons IsInTime (Expire key arm due at) rest in_time.0 (all_in_time rest in_time.1)
all_in_time (Take classes taken ∷ rest) in_time =
    All-cons IsInTime (Take classes taken) rest tt (all_in_time rest in_time)
all_in_time (Set key due arm ∷ rest) in_time =
    All-cons IsInTime (Set key due arm) rest tt (all_in_time rest in_time)
all_in_time (Reset key ∷ rest) in_time = All-cons IsInTime (Reset key) rest tt (all_in_time rest in_time)
all_in_time (Stop ∷ rest) in_time = All-cons IsInTime Stop rest tt (all_in_time rest in_time)

more_in_time : (more : List PortEvent) → IsMore more → All IsInTime more
more_in_time more (none is) = subst (λ (l : List PortEvent). All IsInTime l) (sym is) (All-nil IsInTime)
more_in_time more (one_take classes is) =
    subst (λ (l : List PortEvent). All IsInTime l) (sym is)
    (All-cons IsInTime (Take classes Nothing) [] tt (All-nil IsInTime))

pub history_in_time : (history more : List PortEvent) → AreInTime history → IsMore more → All IsInTime (history ++ more)
history_in_time history more in_time is =
    All-append IsInTime history more (all_in_time history in_time) (more_in_time more is)

-- ---- puts

pub puts_more : (history more : List PortEvent) → IsMore more → puts_of (history ++ more) ≡ puts_of history
puts_more history more (none is) =
    ap (λ (l : List PortEvent). puts_of (history ++ l)) is ∙ ap (λ (l : List PortEvent). puts_of l) (append-nil history)
puts_more history more (one_take classes is) =
    ap (λ (l : List PortEvent). puts_of (history ++ l)) is ∙ take_last history where
      take_last : (events : List PortEvent) → puts_of (events ++ Take classes Nothing ∷ []) ≡ puts_of events
      take_last [] = refl
      take_last (Put item ∷ rest) = ap (λ (l : List Item). item ∷ l) (take_last rest)
      take_last (Expire key arm due at ∷ rest) = take_last rest
      take_last (Take others taken ∷ rest) = take_last rest
      take_last (Set key due arm ∷ rest) = take_last rest
      take_last (Reset key ∷ rest) = take_last rest
      take_last (Stop ∷ rest) = take_last rest
