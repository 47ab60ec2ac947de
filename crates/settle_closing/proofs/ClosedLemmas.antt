-- What is left of an instance has a history of its port.
use Rattle.std.proofs.Common.{◌≡◌, ◌∙◌, ◌⊎◌, ap, append-nil, inl, inr, refl, subst, sym, ℕ, Bool, true, false, List, [], ◌∷◌, ◌++◌, All, None, Some, length, slice_get}
use Rattle.std.specs.Prelude.{Option}
use Rattle.std.proofs.lemmas.Grind.{flat_map-append}
use Rattle.std.proofs.lemmas.List.{map-append}
use Rattle.std.proofs.lemmas.List.Elements.{All-nil}
use Rattle.std.specs.declared.alloc.Global.{Global}
use Rattle.crossbeam_queue.specs.SegTies.{SegId}
use Rattle.input_port.specs.Held.{IsKept}
use Rattle.port_model.specs.Calls.{after_draws}
use Rattle.port_model.specs.Ends.{OwnerState}
use Rattle.port_model.specs.History.{IsLegal, PortEvent, Take}
use Rattle.port_model.specs.Port.{PortState, empty_port}
use Rattle.port_model.specs.declared.selection.Class.{Class}
use Rattle.port_model.specs.declared.taken.Taken.TheVariants.{Nothing}
use Rattle.port_model.specs.declared.values.item.Item.{Item}
use Rattle.port_model.specs.declared.values.pid.Pid.TheVariants.{Of}
use Rattle.port_model.specs.declared.values.value.Value.{Value}
use Rattle.run_record.specs.declared.evaluation.identity.Identity.{Identity}
use Rattle.run_record.specs.declared.evaluation.store.Store.{Store}
use Rattle.run_record.specs.Event as event
use Rattle.run_record.specs.Event.{Event}
use Rattle.run_record.specs.Record.{RecordValue}
use Rattle.run_semantics.proofs.Deeds.{effects_of-append}
use Rattle.run_semantics.proofs.Outside.{drawn_as-append, outside_of-append, outside_of-drawn}
use Rattle.run_semantics.specs.ControlPoint as place
use Rattle.run_semantics.specs.ControlPoint.{AtStart, ControlPoint, Definition, In}
use Rattle.run_semantics.specs.Effect.{Deed, Effect, effects_of, events_of}
use Rattle.run_semantics.specs.Goes.{drawn_as}
use Rattle.run_semantics.specs.Instance.{HasRun, first_store}
use Rattle.run_semantics.specs.Leads.{IsQuiet}
use Rattle.run_semantics.specs.RunLaws.{RunsAreLegal}
use Rattle.run_semantics.specs.Runs.{Runs, outside_of, waits}
use Rattle.run_semantics.specs.Sent.{sent_by_one, sent_to}
use Rattle.sdl_interp.specs.Machine.{place_of}
use Rattle.sdl_interp.specs.declared.transitions.machine.Position.{Position}
use Rattle.sdl_interp.specs.declared.transitions.machine.Position.TheVariants as at
use Rattle.sdl_interp.specs.Instance.{InstanceValue, IsQuietAt, IsRunAs, closed, closing}
use Rattle.sdl_system.specs.Behaviour.{Behaviour}
use Rattle.sdl_system.specs.System.{SystemValue}
use Rattle.sdl_system.specs.declared.id.StateId.{StateId}
use Rattle.settle_closing.proofs.Ends.{ends_in_end}
use Rattle.settle_closing.proofs.Meant.{definition, meant}
use Rattle.settle_closing.proofs.PortLemmas.{drawn_in_time, drawn_puts, history_in_time}
use Rattle.settle_closing.specs.ClosingLaws.{ClosedHaveHistories, ClosedHavePut, LeftWithoutPeers}
use Rattle.settle_closing.specs.History.{EndsAs, HasHistoryOf, RestsStill}
use Rattle.settle_closing.specs.Left.{IsLeft}
use Rattle.settle_checks.specs.Gathering.{Draws}
use Rattle.settle_meaning.specs.Closed.{ClosesAs, EndsIn, IsCut, IsEnd}
use Rattle.settle_meaning.specs.Histories.{IsInTime, puts_of}
use Rattle.settle_meaning.specs.Identities.{identity_of}
use Rattle.settle_meaning.specs.Settled.{RestsAsItEnds}
use Rattle.settle_meaning.specs.MeaningLaws.{ExpiriesHaveSets, PutsComeFromOutside, QuietDrawsChangeNothing, RestsAreForGood, RunsHearWhatIsDrawn, StoppedStays, rest_deed}
use Rattle.threads_instance.proofs.RunBy.{by_closed}
use Rattle.threads_instance.specs.Doings.{children_of}
use Rattle.threads_instance.specs.RunBy.{IsRunBy}
use Rattle.threads_instance.specs.declared.doings.Child.{Child}
use Rattle.threads_ports.specs.Peers.{AreLast, PeersState, put_to}

-- ---- what is drawn after a close

-- the port in the end, whether it had stopped or not
drawn_state : (first owner : OwnerState) (draws : Draws first owner) → StoppedStays → IsKept owner
    → owner.state ≡ after_draws first.pid first.state draws.news
drawn_state first owner draws stays kept = by_test first.state.alive refl where
  by_test : (b : Bool) → first.state.alive ≡ b → owner.state ≡ after_draws first.pid first.state draws.news
  by_test true lived = draws.living lived
  by_test false over =
      let same = draws.stopped over in
      let none : first.state.timers ≡ [] =
      ap (λ (port : PortState). port.timers) (sym same)
      ∙ kept.over (ap (λ (port : PortState). port.alive) same ∙ over) in
      same ∙ sym (stays first.pid first.state draws.news over none)

-- what comes from outside is what was drawn in the end
drawn_outside : (first owner : OwnerState) (draws : Draws first owner) (history : List PortEvent)
    → outside_of history ≡ drawn_as first.pid first.drawn
    → outside_of history ++ drawn_as first.pid draws.news ≡ drawn_as owner.pid owner.drawn
drawn_outside first owner draws history outside =
    ap (λ (l : List PortEvent). l ++ drawn_as first.pid draws.news) outside
    ∙ sym (drawn_as-append first.pid first.drawn draws.news)
    ∙ (λ k. drawn_as (sym draws.pid k) (sym draws.drawn k))

-- ---- a run to the end

-- The record is a run on a history of the port, which draws what was drawn in the end, and closes as it is to. It began
-- with these values and had these effects.
record Found (d : Definition) (whole : Bool) (end : ℕ) (trace : RecordValue) (owner : OwnerState) (given : List Value)
    (effects : List Effect) : Type 0 where
  values : List Value
  deeds : List Deed
  history : List PortEvent
  to : ControlPoint
  store : Store
  recorded : trace.events ≡ events_of deeds
  outside : outside_of history ≡ drawn_as owner.pid owner.drawn
  runs : Runs d (identity_of trace) AtStart (first_store d.behaviour values) empty_port deeds history to store
      owner.state
  closes : ClosesAs whole end trace.events history owner.state
  rests : RestsAsItEnds whole trace.events history owner.state
  begins : values ≡ given
  does : effects_of deeds ≡ effects

has_history : (ps : List Behaviour) (system : SystemValue) (p : Behaviour) (whole : Bool) (end : ℕ)
    (trace : RecordValue) (owner : OwnerState) (given : List Value) (effects : List Effect) (children : List Child)
    → RunsAreLegal → ExpiriesHaveSets → PutsComeFromOutside
    → slice_get ps trace.process.0 ≡ Some p → IsKept owner
    → Found (definition system p) whole end trace owner given effects → children ≡ children_of effects
    → HasHistoryOf ps system whole end trace owner.drawn given children
has_history ps system p whole end trace owner given effects children legal sets from_outside listed kept found created =
    let is_legal : IsLegal empty_port found.history owner.state =
    legal (definition system p) (identity_of trace) AtStart found.to (first_store p found.values) found.store empty_port
    owner.state found.deeds found.history found.runs in
    record {
      history = found.history;
      port = owner.state;
      legal = is_legal;
      run = record {
        p = p;
        listed = listed;
        values = found.values;
        deeds = found.deeds;
        place = found.to;
        store = found.store;
        recorded = found.recorded;
        runs = found.runs;
      };
      puts = from_outside found.history
          ∙ ap puts_of found.outside
          ∙ drawn_puts owner.pid owner.drawn;
      in_time = history_in_time found.history
          (subst (λ (l : List PortEvent). All IsInTime l) (sym found.outside)
          (drawn_in_time owner.pid owner.drawn kept.timely));
      sets = sets found.history owner.state is_legal;
      closes = found.closes;
      rests = found.rests;
      begins = found.begins;
      created = created ∙ ap children_of (sym found.does);
    }

-- ---- two ways to it

module _ (d : Definition) (end : ℕ) (trace : RecordValue) (first owner : OwnerState) (draws : Draws first owner)
    (state : owner.state ≡ after_draws first.pid first.state draws.news) (given : List Value) (effects : List Effect) where
  -- what is drawn after the close is heard
  heard : (whole : Bool) (to : ControlPoint) (store : Store) → RunsHearWhatIsDrawn
      → IsRunBy true d (identity_of trace) trace.events to store first given effects
      → ((history : List PortEvent) → ClosesAs whole end trace.events history owner.state)
      → ((history : List PortEvent) → RestsAsItEnds whole trace.events history owner.state)
      → Found d whole end trace owner given effects
  heard whole to store hear by closes rests =
      let run = by.run in
      let news : List PortEvent = drawn_as first.pid draws.news in
      let runs = hear d (identity_of trace) AtStart to (first_store d.behaviour run.values) store empty_port first.state
      run.deeds run.history first.pid draws.news run.runs in
      record {
        values = run.values;
        deeds = run.deeds;
        history = run.history ++ news;
        to = to;
        store = store;
        recorded = run.recorded;
        outside = outside_of-append run.history news
            ∙ ap (λ (l : List PortEvent). outside_of run.history ++ l) (outside_of-drawn first.pid draws.news)
            ∙ drawn_outside first owner draws run.history (run.outside refl);
        runs = subst (λ (port : PortState). Runs d (identity_of trace) AtStart (first_store d.behaviour run.values)
            empty_port run.deeds (run.history ++ news) to store port) (sym state) runs;
        closes = closes (run.history ++ news);
        rests = rests (run.history ++ news);
        begins = by.begins;
        does = by.does;
      }

  -- who rests still has rested for good
  rested : (n : StateId) (events : List Event) (store : Store) (classes : List Class) → RunsAreLegal → RestsAreForGood
      → QuietDrawsChangeNothing → IsRunBy true d (identity_of trace) events (In n) store first given effects
      → IsQuiet d (identity_of trace) first.state n store classes → trace.events ≡ events ++ event.Rest n ∷ []
      → RestsStill end first owner → Found d true end trace owner given effects
  rested n events store classes legal good quiet_draws by quiet closed_by still =
      let run = by.run in
      let news : List PortEvent = drawn_as first.pid draws.news in
      let nothing = quiet_draws first.pid first.state draws.news still.lived
      (ap (λ (port : PortState). length port.waiting) (sym state) ∙ still.waiting) in
      let none : puts_of news ≡ [] = nothing.1 in
      let legal_then : IsLegal empty_port (run.history ++ Take classes Nothing ∷ []) first.state =
      legal d (identity_of trace) AtStart (In n) (first_store d.behaviour run.values) store empty_port first.state
      run.deeds (run.history ++ Take classes Nothing ∷ [])
      (waits run.runs classes quiet (still.lived, quiet.nothing)) in
      let all = good d (identity_of trace) AtStart n (first_store d.behaviour run.values) store empty_port first.state
      run.deeds run.history classes first.pid draws.news run.runs still.lived quiet none in
      let history : List PortEvent = run.history ++ Take classes Nothing ∷ news in
      record {
        values = run.values;
        deeds = run.deeds ++ rest_deed n ∷ [];
        history = history;
        to = place.Closed;
        store = store;
        recorded = closed_by
            ∙ ap (λ (l : List Event). l ++ event.Rest n ∷ []) run.recorded
            ∙ sym (map-append (λ (one : Deed). one.event) run.deeds (rest_deed n ∷ []));
        outside = outside_of-append run.history (Take classes Nothing ∷ news)
            ∙ ap (λ (l : List PortEvent). outside_of run.history ++ l) (outside_of-drawn first.pid draws.news)
            ∙ drawn_outside first owner draws run.history (run.outside refl);
        runs = subst (λ (port : PortState). Runs d (identity_of trace) AtStart (first_store d.behaviour run.values)
            empty_port (run.deeds ++ rest_deed n ∷ []) history place.Closed store port) (sym state) all.runs;
        closes = inr (record {
          rest = record { before = events; last = event.Rest n; events_are = closed_by; is_so = tt };
          found = all.found;
          timers = still.timers;
        });
        rests = inr (record {
          before = run.history;
          classes = classes;
          later = news;
          was = refl;
          same = subst (λ (port : PortState). IsLegal empty_port (run.history ++ Take classes Nothing ∷ []) port)
              (sym (state ∙ nothing.0)) legal_then;
        });
        begins = by.begins;
        does = effects_of-append run.deeds (rest_deed n ∷ []) ∙ append-nil (effects_of run.deeds) ∙ by.does;
      }

-- a record that has come to the end of its instance ends with a stop or a failure
ended_so : (d : Definition) (trace : RecordValue) (position : Position) (store : Store) (owner : OwnerState)
    → HasRun true d (identity_of trace) trace.events (closed position) store owner → position ≡ at.Ended
    → EndsIn IsEnd trace.events
ended_so d trace position store owner run is =
    subst (λ (l : List Event). EndsIn IsEnd l) (sym run.recorded)
    (ends_in_end d (identity_of trace) (first_store d.behaviour run.values) empty_port run.runs
    (ap closed is))

-- a record that was cut
cut_so : (events before : List Event) (position : Position) → events ≡ before ++ closing false position
    → (position ≡ at.Ended → EndsIn IsEnd events) → EndsIn IsEnd events ⊎ EndsIn IsCut events
cut_so events before at.BeforeStart is ended =
    inr (record { before = before; last = event.Cut None; events_are = is; is_so = tt })
cut_so events before (at.In n) is ended =
    inr (record { before = before; last = event.Cut (Some n); events_are = is; is_so = tt })
cut_so events before at.Ended is ended = inl (ended refl)

-- ---- the law

module _ (legal : RunsAreLegal) (hear : RunsHearWhatIsDrawn) (good : RestsAreForGood)
    (quiet_draws : QuietDrawsChangeNothing) (stays : StoppedStays) (sets : ExpiriesHaveSets) (from_outside : PutsComeFromOutside) where
  module _ (named : Option SystemValue) (ports : ℕ → SegId Global) (i : InstanceValue) (trace : RecordValue)
      (first owner : OwnerState) (peers : PeersState) (given : List Value) (children : List Child) (end : ℕ)
      (draws : Draws first owner) (kept : IsKept owner) (d : Definition) (is_run : IsRunAs i d) where
    state : owner.state ≡ after_draws first.pid first.state draws.news
    state = drawn_state first owner draws stays kept

    module _ (whole : Bool) (left : IsLeft named ports whole i trace first peers given children) where
      who_is : i.who ≡ identity_of trace
      who_is = λ k. record {
        process = sym left.closed.process k;
        pid = sym left.closed.pid k;
        parent = sym left.closed.parent k;
      }

      -- what is known of the instance is known of its record and its port
      of_record : (events : List Event) (place : ControlPoint)
          → IsRunBy true d i.who events place i.store i.owner given left.effects
          → IsRunBy true d (identity_of trace) events place i.store first given left.effects
      of_record events place by =
          subst (λ (who : Identity). IsRunBy true d who events place i.store first given left.effects) who_is
          (subst (λ (o : OwnerState). IsRunBy true d i.who events place i.store o given left.effects)
          (sym left.owner_is) by)

      -- the run of the record
      whole_run : IsRunBy true d (identity_of trace) trace.events (closed i.position) i.store first given left.effects
      whole_run =
          of_record trace.events (closed i.position)
          (by_closed d true given whole i.position i trace.events left.effects (λ is_whole. left.rests is_whole d is_run)
          left.closed.events (left.run d is_run))

      -- the run before the close
      run_before : IsRunBy true d (identity_of trace) i.events (place_of i.position) i.store first given left.effects
      run_before = of_record i.events (place_of i.position) (left.run d is_run)

      ended : i.position ≡ at.Ended → EndsIn IsEnd trace.events
      ended is = ended_so d trace i.position i.store first whole_run.run is

    module _ (left : IsLeft named ports true i trace first peers given children) where
      found_ended : EndsIn IsEnd trace.events → Found d true end trace owner given left.effects
      found_ended ends =
          heard d end trace first owner draws state given left.effects true (closed i.position) i.store hear
          (whole_run true left) (λ history. inl ends) (λ history. inl ends)

      -- where it was as it was closed
      found_at : (position : Position) → i.position ≡ position → RestsStill end first owner
          → Found d true end trace owner given left.effects
      found_at at.BeforeStart is still =
          absurd (subst (λ (position : Position). IsQuietAt d position i) is (left.rests refl d is_run))
      found_at (at.In n) is still =
          let quiet = subst (λ (position : Position). IsQuietAt d position i) is (left.rests refl d is_run) in
          rested d end trace first owner draws state given left.effects n i.events i.store quiet.0 legal good quiet_draws
          (subst
          (λ (position : Position).
          IsRunBy true d (identity_of trace) i.events (place_of position) i.store first given left.effects) is
          (run_before true left))
          (subst (λ (who : Identity). IsQuiet d who first.state n i.store quiet.0) (who_is true left)
          (subst (λ (o : OwnerState). IsQuiet d i.who o.state n i.store quiet.0) (sym left.owner_is) quiet.1))
          (left.closed.events ∙ ap (λ (position : Position). i.events ++ closing true position) is)
          still
      found_at at.Ended is still = found_ended (ended true left is)

    found : (whole : Bool) (left : IsLeft named ports whole i trace first peers given children)
        → EndsAs whole end trace.events first owner → Found d whole end trace owner given left.effects
    found true left ends =
        elim ends [
          | inl stopped ↦ found_ended left stopped
          | inr still ↦ found_at left i.position refl still
        ]
    found false left ends =
        heard d end trace first owner draws state given left.effects false (closed i.position) i.store hear
        (whole_run false left)
        (λ history. cut_so trace.events i.events i.position left.closed.events (ended false left)) (λ history. tt)

  pub closed_have_histories : ClosedHaveHistories
  closed_have_histories named ports whole i trace first owner peers given children ps system end is behaviours left draws
      kept ends =
      let means = meant named ports whole i trace ps system is behaviours left.seated left.closed in
      has_history ps system means.p whole end trace owner given left.effects children legal sets from_outside
      means.listed kept
      (found named ports i trace first owner peers given children end draws kept (definition system means.p)
      means.is_run whole left ends)
      left.created

-- ---- what was put

-- what closes a record sends nothing
closing_sends : (who number : ℕ) (whole : Bool) (position : Position) → sent_to who (closing whole position) number ≡ []
closing_sends who number whole at.BeforeStart = refl
closing_sends who number true (at.In n) = refl
closing_sends who number false (at.In n) = refl
closing_sends who number whole at.Ended = refl

pub closed_have_put : ClosedHavePut
closed_have_put named ports whole i trace first peers given children ps system is behaviours left = λ number.
    let means = meant named ports whole i trace ps system is behaviours left.seated left.closed in
    let sends : sent_to i.who.pid i.events number ≡ sent_to i.who.pid trace.events number =
    sym (ap (λ (l : List Event). sent_to i.who.pid l number) left.closed.events
    ∙ flat_map-append (sent_by_one i.who.pid number) i.events (closing whole i.position)
    ∙ ap (λ (l : List Item). sent_to i.who.pid i.events number ++ l)
    (closing_sends i.who.pid number whole i.position)
    ∙ append-nil (sent_to i.who.pid i.events number)) in
    subst (λ (pid : ℕ). AreLast (Of pid) (sent_to pid trace.events number) (put_to peers number)) (sym left.closed.pid)
    (subst (λ (l : List Item). AreLast (Of i.who.pid) l (put_to peers number)) sends
    (left.put (definition system means.p) means.is_run number))

pub left_without_peers : LeftWithoutPeers
left_without_peers named ports whole trace owner peers given children of_one =
    let i = of_one.instance in
    let left = of_one.left in
    record {
      instance = i;
      left = record {
        closed = left.closed;
        effects = left.effects;
        run = left.run;
        created = left.created;
        rests = left.rests;
        seated = left.seated;
        owner_is = left.owner_is;
        put = λ d is_run number. record {
          own = All-nil (λ (item : Item). item.sender ≡ Of i.who.pid);
          end = (sent_to i.who.pid i.events number, sym (append-nil (sent_to i.who.pid i.events number)));
        };
      };
    }
