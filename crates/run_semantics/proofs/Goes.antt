-- How pieces of work join, and what one deed brings.
use Rattle.std.proofs.Common.{◌≡◌, inl, inr, ◌∙◌, sym, ap, subst, refl, ℕ, Bool, true, List, [], ◌∷◌, ◌++◌, All, append_assoc, append-nil}
use Rattle.std.proofs.lemmas.List.Elements.{All-append, All-cons, All-nil}
use Rattle.port_model.proofs.Alive.{after_draws-alive}
use Rattle.port_model.specs.Calls.{IsDrawn, TakesHere, after_draws, after_stop}
use Rattle.port_model.specs.Ends.{OwnerState}
use Rattle.port_model.specs.declared.inbox.placed.Placed.{Placed}
use Rattle.port_model.specs.History.{IsLegal, PortEvent, Stop, Take}
use Rattle.port_model.specs.Port.{PortState, stopped}
use Rattle.port_model.specs.Take.{Takes}
use Rattle.port_model.specs.declared.selection.Class.{Class}
use Rattle.port_model.specs.declared.taken.Taken.{Taken}
use Rattle.port_model.specs.declared.taken.Taken.TheVariants.{Consumed, Discarded, Nothing}
use Rattle.run_record.specs.Environment.{environment}
use Rattle.run_record.specs.declared.evaluation.identity.Identity.{Identity}
use Rattle.run_record.specs.Event.{Event, is_beginning}
use Rattle.run_record.specs.Event as event
use Rattle.run_record.specs.declared.failure.Failure.{Failure}
use Rattle.run_semantics.proofs.Deeds.{IsTrueOf-append, IsTrueOf-same, after_deeds-append, calls_of-append, events_of-append, time_after-append}
use Rattle.run_semantics.proofs.Drawn.{all_drawn_still, all_drawn_taken, all_seen, rest_joined}
use Rattle.run_semantics.proofs.Failing.{leads_failed}
use Rattle.run_semantics.proofs.Outside.{Runs-drawn, drawn_as-append, outside_of-append, outside_of-drawn_calls, outside_of-drawn, own_of-append, own_of-drawn_calls, own_of-drawn}
use Rattle.run_semantics.proofs.Runs.{Runs-append}
use Rattle.run_semantics.proofs.Same.{selecting_drawn, tried_drawn}
use Rattle.run_semantics.specs.Effect.{Deed, calls_of, events_of}
use Rattle.run_semantics.specs.Fails.{Fails}
use Rattle.run_semantics.specs.Goes.{AreInner, Goes, GoesWrong, HaveSeenAll, IsAllDrawn, IsFirst, IsInner, IsOneStep, MachineValue, Waits, drawn_as, with_event}
use Rattle.run_semantics.specs.Leads.{IsQuiet, Leads, Selecting, LeadsSilently}
use Rattle.run_semantics.specs.ControlPoint.{Definition, Ended, In, ControlPoint}
use Rattle.run_semantics.specs.Runs.{Runs, acts, outside_of, own_of, still, turns, waits}
use Rattle.run_semantics.specs.Selection.{none_true, tried}
use Rattle.run_semantics.specs.World.{IsTrueOfOne, WorldValue, after_effects, after_deeds, time_after, time_after_one}
use Rattle.sdl_system.specs.Behaviour.{ContinuousSignal}
use Rattle.sdl_system.specs.declared.id.StateId.{StateId}

pub All-one : {X : Type 0} (P : X → Type 0) (x : X) → P x → All P (x ∷ [])
All-one P x holds = All-cons P x [] holds (All-nil P)

pub AreInner-append : (first later : List Deed) → AreInner first → AreInner later → AreInner (first ++ later)
AreInner-append first later one two = All-append (λ (deed : Deed). IsInner deed.event) first later one two

pub IsOneStep-append : (counts : Bool) (first later : List Deed) → IsOneStep counts first → AreInner later
    → IsOneStep counts (first ++ later)
IsOneStep-append counts [] later none inner = absurd none
IsOneStep-append counts (deed ∷ rest) later step inner = (step.0, step.1, AreInner-append rest later step.2 inner)

-- what begins a step
pub IsOneStep-first : (counts : Bool) (deed : Deed) → IsFirst deed.event → is_beginning deed.event ≡ counts
    → IsOneStep counts (deed ∷ [])
IsOneStep-first counts deed first begins = (first, begins, All-nil (λ (deed : Deed). IsInner deed.event))

-- a take leaves a living port alive
taken_alive : (classes : List Class) (old new : PortState) (reply : Taken) → Takes classes old reply new
    → new.alive ≡ old.alive
taken_alive classes old new (Consumed got) (inl first) = ap (λ (q : PortState). q.alive) first.0.now
taken_alive classes old new (Consumed got) (inr later) = ap (λ (q : PortState). q.alive) later.1.now
taken_alive classes old new (Discarded got) takes = ap (λ (q : PortState). q.alive) takes.1.now
taken_alive classes old new Nothing takes = ap (λ (q : PortState). q.alive) takes.1

module _ (d : Definition) where
  pub goes_still : (from : ControlPoint) (m : MachineValue) (w : WorldValue) → Goes AreInner d from m w from m w
  goes_still from m w = record {
    deeds = [];
    news = [];
    history = [];
    shape = All-nil (λ (deed : Deed). IsInner deed.event);
    who = refl;
    port = refl;
    pid = refl;
    drawn = sym (append-nil m.owner.drawn);
    fresh = λ rests. absurd rests;
    fresh_still = λ all. all;
    outside = refl;
    own = refl;
    recorded = sym (append-nil m.events);
    world = refl;
    time = refl;
    are_true = tt;
    runs = still;
  }

  pub goes_same : (from : ControlPoint) (m n : MachineValue) (w v : WorldValue) → n ≡ m → v ≡ w
      → Goes AreInner d from m w from n v
  goes_same from m n w v same quiet = rw (same, quiet) (goes_still from m w)

  -- what begins at equal work
  pub goes_since : (Shape : List Deed → Type 0) (from to : ControlPoint) (m k n : MachineValue) (w v : WorldValue) → k ≡ m
      → Goes Shape d from k w to n v → Goes Shape d from m w to n v
  goes_since Shape from to m k n w v same goes = subst (λ (x : MachineValue). Goes Shape d from x w to n v) same goes

  -- what ends at equal work
  pub goes_until : (Shape : List Deed → Type 0) (from to : ControlPoint) (m k n : MachineValue) (w u v : WorldValue) → n ≡ k
      → v ≡ u → Goes Shape d from m w to k u → Goes Shape d from m w to n v
  goes_until Shape from to m k n w u v same around goes = rw (same, around) goes

  goes_join : (First Then Shape : List Deed → Type 0) (from mid to : ControlPoint) (l m n : MachineValue) (w v u : WorldValue)
      (first : Goes First d from l w mid m v) (then : Goes Then d mid m v to n u)
      → Shape (first.deeds ++ then.deeds) → Goes Shape d from l w to n u
  goes_join First Then Shape from mid to l m n w v u first then shape = record {
    deeds = first.deeds ++ then.deeds;
    news = first.news ++ then.news;
    history = first.history ++ then.history;
    shape = shape;
    who = then.who ∙ first.who;
    port = then.port ∙ first.port;
    pid = then.pid ∙ first.pid;
    drawn = then.drawn ∙ ap (λ (drawn : List Placed). drawn ++ then.news) first.drawn
        ∙ append_assoc l.owner.drawn first.news then.news;
    fresh = rest_joined first.deeds then.deeds m.owner n.owner first.fresh then.fresh_still then.fresh;
    fresh_still = λ all. then.fresh_still (first.fresh_still all);
    outside = outside_of-append first.history then.history
        ∙ ap (λ (events : List PortEvent). events ++ outside_of then.history) first.outside
        ∙ ap (λ (events : List PortEvent). drawn_as l.owner.pid first.news ++ events) then.outside
        ∙ ap (λ (pid : ℕ). drawn_as l.owner.pid first.news ++ drawn_as pid then.news) first.pid
        ∙ sym (drawn_as-append l.owner.pid first.news then.news);
    own = own_of-append first.history then.history
        ∙ ap (λ (events : List PortEvent). events ++ own_of then.history) first.own
        ∙ ap (λ (events : List PortEvent). calls_of first.deeds ++ events) then.own
        ∙ sym (calls_of-append first.deeds then.deeds);
    recorded = then.recorded ∙ ap (λ (events : List Event). events ++ events_of then.deeds) first.recorded
        ∙ append_assoc l.events (events_of first.deeds) (events_of then.deeds)
        ∙ ap (λ (events : List Event). l.events ++ events) (sym (events_of-append first.deeds then.deeds));
    world = then.world ∙ ap (λ (x : WorldValue). after_deeds x then.deeds) first.world
        ∙ sym (after_deeds-append w first.deeds then.deeds);
    time = then.time ∙ ap (λ (t : ℕ). time_after t then.deeds) first.time
        ∙ sym (time_after-append l.store.time first.deeds then.deeds);
    are_true = IsTrueOf-append d.system l.who w l.store.time first.deeds then.deeds first.are_true
        (IsTrueOf-same d.system m.who l.who v (after_deeds w first.deeds) m.store.time (time_after l.store.time first.deeds)
        then.deeds first.who first.world first.time then.are_true);
    runs = Runs-append d l.who from l.store l.owner.state first.deeds first.history mid m.store m.owner.state first.runs
        (subst (λ (who : Identity).
        Runs d who mid m.store m.owner.state then.deeds then.history to n.store n.owner.state) first.who then.runs);
  }

  pub goes_on : (from mid to : ControlPoint) (l m n : MachineValue) (w v u : WorldValue) → Goes AreInner d from l w mid m v
      → Goes AreInner d mid m v to n u → Goes AreInner d from l w to n u
  goes_on from mid to l m n w v u first then =
      goes_join AreInner AreInner AreInner from mid to l m n w v u first then
      (AreInner-append first.deeds then.deeds first.shape then.shape)

  -- a step that has begun goes on
  pub step_on : (counts : Bool) (from mid to : ControlPoint) (l m n : MachineValue) (w v u : WorldValue)
      → Goes (IsOneStep counts) d from l w mid m v → Goes AreInner d mid m v to n u
      → Goes (IsOneStep counts) d from l w to n u
  step_on counts from mid to l m n w v u first then =
      goes_join (IsOneStep counts) AreInner (IsOneStep counts) from mid to l m n w v u first then
      (IsOneStep-append counts first.deeds then.deeds first.shape then.shape)

  -- ---- one deed

  -- The owner draws, and then a deed is done; before its event is recorded the work stands at `k`.
  pub goes_drawn_deed : (Shape : List Deed → Type 0) (from to : ControlPoint) (m k : MachineValue) (w : WorldValue)
      (deed : Deed) (news : List Placed) → Shape (deed ∷ []) → own_of deed.calls ≡ deed.calls
      → outside_of deed.calls ≡ [] → k.who ≡ m.who → k.owner.port ≡ m.owner.port → k.owner.pid ≡ m.owner.pid
      → k.owner.drawn ≡ m.owner.drawn ++ news → k.events ≡ m.events
      → k.store.time ≡ time_after_one m.store.time deed.event → IsTrueOfOne d.system m.who w m.store.time deed.event
      → Leads d m.who (after_draws m.owner.pid m.owner.state news) from m.store deed to k.store
      → IsLegal (after_draws m.owner.pid m.owner.state news) deed.calls k.owner.state
      → (HaveSeenAll deed.calls → IsAllDrawn k.owner) → (IsAllDrawn m.owner → IsAllDrawn k.owner)
      → Goes Shape d from m w to (with_event k deed.event) (after_effects w deed.effects)
  goes_drawn_deed Shape from to m k w deed news shape own outside who port pid drawn events time is_true leads legal seen
      all =
      record {
        deeds = deed ∷ [];
        news = news;
        history = drawn_as m.owner.pid news ++ deed.calls;
        shape = shape;
        who = who;
        port = port;
        pid = pid;
        drawn = drawn;
        fresh = seen;
        fresh_still = all;
        outside = outside_of-drawn_calls m.owner.pid news deed.calls outside;
        own = own_of-drawn_calls m.owner.pid news deed.calls own ∙ sym (append-nil deed.calls);
        recorded = ap (λ (events : List Event). events ++ deed.event ∷ []) events;
        world = refl;
        time = time;
        are_true = (is_true, tt);
        runs = acts
            (Runs-drawn d m.who from m.store m.owner.state [] [] from m.store m.owner.state m.owner.pid news still)
            deed to k.store k.owner.state leads legal;
      }

  pub goes_deed : (Shape : List Deed → Type 0) (from to : ControlPoint) (m k : MachineValue) (w : WorldValue) (deed : Deed)
      → Shape (deed ∷ []) → own_of deed.calls ≡ deed.calls → outside_of deed.calls ≡ [] → k.who ≡ m.who
      → k.owner.port ≡ m.owner.port → k.owner.pid ≡ m.owner.pid → k.owner.drawn ≡ m.owner.drawn → k.events ≡ m.events
      → k.store.time ≡ time_after_one m.store.time deed.event → IsTrueOfOne d.system m.who w m.store.time deed.event
      → Leads d m.who m.owner.state from m.store deed to k.store → IsLegal m.owner.state deed.calls k.owner.state
      → (HaveSeenAll deed.calls → IsAllDrawn k.owner) → (IsAllDrawn m.owner → IsAllDrawn k.owner)
      → Goes Shape d from m w to (with_event k deed.event) (after_effects w deed.effects)
  goes_deed Shape from to m k w deed shape own outside who port pid drawn events time is_true leads legal seen all =
      goes_drawn_deed Shape from to m k w deed [] shape own outside who port pid
      (drawn ∙ sym (append-nil m.owner.drawn)) events time is_true leads legal seen all

  -- ---- no deed

  -- a step without an event
  pub goes_turn : (from to : ControlPoint) (m n : MachineValue) (w : WorldValue)
      → LeadsSilently d m.who m.owner.state from m.store to n.store → n.who ≡ m.who → n.owner ≡ m.owner → n.events ≡ m.events
      → n.store.time ≡ m.store.time → Goes AreInner d from m w to n w
  goes_turn from to m n w turn who owner events time = record {
    deeds = [];
    news = [];
    history = [];
    shape = All-nil (λ (deed : Deed). IsInner deed.event);
    who = who;
    port = ap (λ (o : OwnerState). o.port) owner;
    pid = ap (λ (o : OwnerState). o.pid) owner;
    drawn = ap (λ (o : OwnerState). o.drawn) owner ∙ sym (append-nil m.owner.drawn);
    fresh = λ rests. absurd rests;
    fresh_still = λ all. subst (λ (o : OwnerState). IsAllDrawn o) (sym owner) all;
    outside = refl;
    own = refl;
    recorded = events ∙ sym (append-nil m.events);
    world = refl;
    time = time;
    are_true = tt;
    runs = subst (λ (o : OwnerState). Runs d m.who from m.store m.owner.state [] [] to n.store o.state) (sym owner)
        (turns still to n.store turn);
  }

  -- the owner draws
  abbrev pub goes_drawn : (from : ControlPoint) (m : MachineValue) (w : WorldValue) (o : OwnerState) (news : List Placed)
      → IsDrawn m.owner o news → Goes AreInner d from m w from (record m { owner = o }) w
  goes_drawn from m w o news draws = record {
    deeds = [];
    news = news;
    history = drawn_as m.owner.pid news;
    shape = All-nil (λ (deed : Deed). IsInner deed.event);
    who = refl;
    port = draws.port;
    pid = draws.pid;
    drawn = draws.drawn;
    fresh = λ rests. absurd rests;
    fresh_still = all_drawn_still m.owner o news draws;
    outside = outside_of-drawn m.owner.pid news;
    own = own_of-drawn m.owner.pid news;
    recorded = sym (append-nil m.events);
    world = refl;
    time = refl;
    are_true = tt;
    runs = subst (λ (q : PortState).
        Runs d m.who from m.store m.owner.state [] (drawn_as m.owner.pid news) from m.store q) (sym draws.state)
        (Runs-drawn d m.who from m.store m.owner.state [] [] from m.store m.owner.state m.owner.pid news still);
  }

  -- what begins with a draw
  pub drawn_on : (Shape : List Deed → Type 0) (from to : ControlPoint) (m n : MachineValue) (w v : WorldValue) (o : OwnerState)
      (news : List Placed) → IsDrawn m.owner o news → Goes Shape d from (record m { owner = o }) w to n v
      → Goes Shape d from m w to n v
  drawn_on Shape from to m n w v o news draws goes =
      goes_join AreInner Shape Shape from from to m (record m { owner = o }) n w w v
      (goes_drawn from m w o news draws) goes goes.shape

  -- ---- the first deed of a step

  -- a take, and what begins with what it gave
  pub goes_taken : (counts : Bool) (n : StateId) (to : ControlPoint) (m k : MachineValue) (w : WorldValue) (deed : Deed)
      (classes : List Class) (reply : Taken) (takes : TakesHere classes m.owner k.owner reply)
      → m.owner.state.alive ≡ true → deed.calls ≡ Take classes reply ∷ [] → IsFirst deed.event
      → is_beginning deed.event ≡ counts → k.who ≡ m.who → k.events ≡ m.events
      → k.store.time ≡ time_after_one m.store.time deed.event → IsTrueOfOne d.system m.who w m.store.time deed.event
      → Leads d m.who (after_draws m.owner.pid m.owner.state takes.news) (In n) m.store deed to k.store
      → Goes (IsOneStep counts) d (In n) m w to (with_event k deed.event) (after_effects w deed.effects)
  goes_taken counts n to m k w deed classes reply takes alive is first begins who events time is_true leads =
      let q : PortState = after_draws m.owner.pid m.owner.state takes.news in
      let lives : q.alive ≡ true = after_draws-alive m.owner.pid m.owner.state takes.news ∙ alive in
      goes_drawn_deed (IsOneStep counts) (In n) to m k w deed takes.news (IsOneStep-first counts deed first begins)
      (subst (λ (calls : List PortEvent). own_of calls ≡ calls) (sym is) refl)
      (subst (λ (calls : List PortEvent). outside_of calls ≡ []) (sym is) refl)
      who takes.draws.port takes.draws.pid takes.draws.drawn events time is_true leads
      (subst (λ (calls : List PortEvent). IsLegal q calls k.owner.state) (sym is)
      (k.owner.state, (lives, takes.take), refl))
      (λ seen. all_seen classes m.owner k.owner reply [] takes (subst (λ (calls : List PortEvent). HaveSeenAll calls) is seen))
      (all_drawn_taken classes m.owner k.owner reply takes)

  -- a take, and a failure after it
  pub goes_taken_stopped : (counts : Bool) (n : StateId) (to : ControlPoint) (m k : MachineValue) (w : WorldValue)
      (deed : Deed) (classes : List Class) (reply : Taken) (takes : TakesHere classes m.owner k.owner reply)
      → m.owner.state.alive ≡ true → deed.calls ≡ Take classes reply ∷ Stop ∷ [] → IsFirst deed.event
      → is_beginning deed.event ≡ counts → k.who ≡ m.who → k.events ≡ m.events
      → k.store.time ≡ time_after_one m.store.time deed.event → IsTrueOfOne d.system m.who w m.store.time deed.event
      → Leads d m.who (after_draws m.owner.pid m.owner.state takes.news) (In n) m.store deed to k.store
      → Goes (IsOneStep counts) d (In n) m w to (with_event (record k { owner = after_stop k.owner }) deed.event)
      (after_effects w deed.effects)
  goes_taken_stopped counts n to m k w deed classes reply takes alive is first begins who events time is_true leads =
      let q : PortState = after_draws m.owner.pid m.owner.state takes.news in
      let lives : q.alive ≡ true = after_draws-alive m.owner.pid m.owner.state takes.news ∙ alive in
      let still_lives : k.owner.state.alive ≡ true = taken_alive classes q k.owner.state reply takes.take ∙ lives in
      goes_drawn_deed (IsOneStep counts) (In n) to m (record k { owner = after_stop k.owner }) w deed takes.news
      (IsOneStep-first counts deed first begins)
      (subst (λ (calls : List PortEvent). own_of calls ≡ calls) (sym is) refl)
      (subst (λ (calls : List PortEvent). outside_of calls ≡ []) (sym is) refl)
      who takes.draws.port takes.draws.pid takes.draws.drawn events time is_true leads
      (subst (λ (calls : List PortEvent). IsLegal q calls (stopped k.owner.state)) (sym is)
      (k.owner.state, (lives, takes.take), (stopped k.owner.state, (still_lives, refl), refl)))
      (λ seen. all_seen classes m.owner k.owner reply (Stop ∷ []) takes
      (subst (λ (calls : List PortEvent). HaveSeenAll calls) is seen))
      (all_drawn_taken classes m.owner k.owner reply takes)

  -- the owner draws, and a take is refused
  pub goes_drawn_stopped : (counts : Bool) (n : StateId) (to : ControlPoint) (m k : MachineValue) (w : WorldValue)
      (deed : Deed) (news : List Placed) → IsDrawn m.owner k.owner news → m.owner.state.alive ≡ true
      → deed.calls ≡ Stop ∷ [] → IsFirst deed.event → is_beginning deed.event ≡ counts → k.who ≡ m.who
      → k.events ≡ m.events
      → k.store.time ≡ time_after_one m.store.time deed.event → IsTrueOfOne d.system m.who w m.store.time deed.event
      → Leads d m.who (after_draws m.owner.pid m.owner.state news) (In n) m.store deed to k.store
      → Goes (IsOneStep counts) d (In n) m w to (with_event (record k { owner = after_stop k.owner }) deed.event)
      (after_effects w deed.effects)
  goes_drawn_stopped counts n to m k w deed news draws alive is first begins who events time is_true leads =
      let q : PortState = after_draws m.owner.pid m.owner.state news in
      let lives : q.alive ≡ true = after_draws-alive m.owner.pid m.owner.state news ∙ alive in
      goes_drawn_deed (IsOneStep counts) (In n) to m (record k { owner = after_stop k.owner }) w deed news
      (IsOneStep-first counts deed first begins)
      (subst (λ (calls : List PortEvent). own_of calls ≡ calls) (sym is) refl)
      (subst (λ (calls : List PortEvent). outside_of calls ≡ []) (sym is) refl)
      who draws.port draws.pid draws.drawn events time is_true leads
      (subst (λ (calls : List PortEvent). IsLegal q calls (stopped k.owner.state)) (sym is)
      (stopped k.owner.state, (lives, ap stopped draws.state), refl))
      (λ seen. absurd (subst (λ (calls : List PortEvent). HaveSeenAll calls) is seen))
      (all_drawn_still m.owner k.owner news draws)

  -- the port is stopped, and nothing is drawn before
  pub goes_stopped : (Shape : List Deed → Type 0) (from to : ControlPoint) (m k : MachineValue) (w : WorldValue) (deed : Deed)
      → Shape (deed ∷ []) → m.owner.state.alive ≡ true → deed.calls ≡ Stop ∷ [] → k.who ≡ m.who → k.events ≡ m.events
      → k.store.time ≡ time_after_one m.store.time deed.event → IsTrueOfOne d.system m.who w m.store.time deed.event
      → Leads d m.who m.owner.state from m.store deed to k.store
      → Goes Shape d from m w to (with_event (record k { owner = after_stop m.owner }) deed.event)
      (after_effects w deed.effects)
  goes_stopped Shape from to m k w deed shape alive is who events time is_true leads =
      goes_deed Shape from to m (record k { owner = after_stop m.owner }) w deed shape
      (subst (λ (calls : List PortEvent). own_of calls ≡ calls) (sym is) refl)
      (subst (λ (calls : List PortEvent). outside_of calls ≡ []) (sym is) refl)
      who refl refl refl events time is_true leads
      (subst (λ (calls : List PortEvent). IsLegal m.owner.state calls (stopped m.owner.state)) (sym is)
      (stopped m.owner.state, (alive, refl), refl))
      (λ seen. absurd (subst (λ (calls : List PortEvent). HaveSeenAll calls) is seen)) (λ all. all)

  -- ---- waiting

  -- a take finds nothing, and no continuous signal is true
  pub waits_taken : (state : StateId) (m : MachineValue) (w : WorldValue) (o : OwnerState) (classes : List Class)
      (takes : TakesHere classes m.owner o Nothing) → m.owner.state.alive ≡ true
      → (selecting : Selecting d m.who m.owner.state state m.store classes)
      → tried (environment d.system m.who m.store m.owner.state) selecting.state.continuous ≡ none_true
      → Waits d state m w (record m { owner = o }) w
  waits_taken state m w o classes takes alive selecting tries =
      let pid : ℕ = m.owner.pid in
      let q : PortState = after_draws pid m.owner.state takes.news in
      let lives : q.alive ≡ true = after_draws-alive pid m.owner.state takes.news ∙ alive in
      let signals : List ContinuousSignal = selecting.state.continuous in
      let quiet : IsQuiet d m.who q state m.store classes = record {
        selecting = selecting_drawn d m.who m.owner.state state m.store classes pid takes.news selecting;
        nothing = (takes.take.0, refl);
        tries = sym (tried_drawn d m.who m.owner.state m.store signals pid takes.news) ∙ tries;
      } in
      record {
        classes = classes;
        news = takes.news;
        history = drawn_as pid takes.news ++ Take classes Nothing ∷ [];
        who = refl;
        port = takes.draws.port;
        pid = takes.draws.pid;
        drawn = takes.draws.drawn;
        fresh = takes.fresh refl;
        armed = takes.armed;
        outside = outside_of-drawn_calls pid takes.news (Take classes Nothing ∷ []) refl;
        own = own_of-drawn_calls pid takes.news (Take classes Nothing ∷ []) refl;
        store = refl;
        recorded = refl;
        world = refl;
        quiet = subst (λ (port : PortState). IsQuiet d m.who port state m.store classes) (sym takes.take.1) quiet;
        runs = subst (λ (port : PortState). Runs d m.who (In state) m.store m.owner.state []
            (drawn_as pid takes.news ++ Take classes Nothing ∷ []) (In state) m.store port) (sym takes.take.1)
            (waits
            (Runs-drawn d m.who (In state) m.store m.owner.state [] [] (In state) m.store m.owner.state pid
            takes.news still)
            classes quiet (lives, (takes.take.0, refl)));
      }

  -- ---- what goes wrong

  -- what goes on and then wrong, goes wrong
  pub wrong_on : (from mid : ControlPoint) (l m n : MachineValue) (w v u : WorldValue) (why : Failure)
      → Goes AreInner d from l w mid m v → GoesWrong d mid m v n u why → GoesWrong d from l w n u why
  wrong_on from mid l m n w v u why first then = record {
    at = then.at;
    goes = goes_on from mid then.at l m n w v u first then.goes;
    fails = then.fails;
  }

  -- what fails at once goes wrong
  pub wrong_here : (from : ControlPoint) (m n : MachineValue) (w v : WorldValue) (why : Failure)
      → Fails d m.who m.owner.state from m.store why → n ≡ m → v ≡ w → GoesWrong d from m w n v why
  wrong_here from m n w v why fails same quiet = record {
    at = from;
    goes = goes_same from m n w v same quiet;
    fails = rw same fails;
  }

  -- what went wrong fails, and its port is stopped
  pub goes_failed : (from : ControlPoint) (m n : MachineValue) (w v : WorldValue) (why : Failure)
      → GoesWrong d from m w n v why → n.owner.state.alive ≡ true
      → Goes AreInner d from m w Ended (with_event (record n { owner = after_stop n.owner }) (event.Failed why)) v
  goes_failed from m n w v why wrong alive =
      let deed : Deed = record { event = event.Failed why; calls = Stop ∷ []; effects = [] } in
      let k : MachineValue = with_event (record n { owner = after_stop n.owner }) (event.Failed why) in
      goes_on from wrong.at Ended m n k w v v wrong.goes
      (goes_stopped AreInner wrong.at Ended n n v deed (All-one (λ (deed : Deed). IsInner deed.event) deed tt)
      alive refl refl refl refl tt
      (leads_failed d n.who n.owner.state wrong.at n.store why wrong.fails))
