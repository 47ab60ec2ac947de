-- A port lives until its instance has ended, and what comes to the end of its instance ends with a stop or a failure.
use Rattle.std.proofs.Common.{◌≡◌, ◌∙◌, ◌⊎◌, ◌+◌, ap, if◌then◌else◌, inl, inr, refl, subst, sym, Bool, true, false, List, [], ◌∷◌, ◌++◌, None, Some}
use Rattle.std.proofs.lemmas.List.{map-append}
use Rattle.port_model.specs.History.{Expire, IsLegal, PortEvent, PortStep, Put, Reset, Set, Stop, Take}
use Rattle.port_model.specs.Laws.{IsFromOutside}
use Rattle.port_model.specs.Port.{PortState, expires}
use Rattle.port_model.specs.Take.{Takes}
use Rattle.port_model.specs.Timers.{with_waiting}
use Rattle.port_model.specs.declared.got.Got.TheVariants.{Signal, Timer}
use Rattle.port_model.specs.declared.selection.Class.{Class}
use Rattle.port_model.specs.declared.taken.Taken.{Taken}
use Rattle.port_model.specs.declared.taken.Taken.TheVariants.{Consumed, Discarded, Nothing}
use Rattle.run_record.specs.declared.evaluation.identity.Identity.{Identity}
use Rattle.run_record.specs.declared.evaluation.store.Store.{Store}
use Rattle.run_record.specs.Event as event
use Rattle.run_record.specs.Event.{Event}
use Rattle.run_semantics.specs.ControlPoint.{Amid, AtStart, Closed, ControlPoint, Definition, Doing, Ended, In, Receiving}
use Rattle.run_semantics.specs.Effect.{Deed, Effect, events_of}
use Rattle.run_semantics.specs.Leads.{Happens, LeadsSilently}
use Rattle.run_semantics.specs.Runs.{Runs, acts, hears, still, turns, waits}
use Rattle.sdl_system.specs.Body as body
use Rattle.settle_meaning.specs.Closed.{EndsIn, IsEnd}
use Rattle.settle_meaning.specs.Living.{is_end}

abbrev pub is_over : ControlPoint → Bool
is_over Ended = true
is_over place = false

-- the calls have no stop
abbrev NoStops : List PortEvent → Type 0
NoStops [] = Unit {0}
NoStops (Stop ∷ rest) = ⊥
NoStops (call ∷ rest) = NoStops rest

-- What an event of a living instance does: it is a stop or a failure, which leads to the end, or the instance lives on
-- and
-- its port isn't stopped.
record GoesOn (calls : List PortEvent) (to : ControlPoint) : Type 0 where
  lives : is_over to ≡ false
  no_stops : NoStops calls

record Ends (happened : Event) (to : ControlPoint) : Type 0 where
  ended : to ≡ Ended
  is_so : is_end happened ≡ true

abbrev Outcome : ControlPoint → Event → List PortEvent → ControlPoint → Type 0
Outcome place happened calls to = (is_over place ≡ false) × (Ends happened to ⊎ GoesOn calls to)

-- no failure has a cause there
neither : {A : Type 0} → (A × ⊥) ⊎ ⊥ → ⊥
neither (inl memory) = memory.1
neither (inr cause) = cause

-- it lives on, by these calls
on : (place : ControlPoint) (happened : Event) (calls known : List PortEvent) (to next : ControlPoint)
    → is_over place ≡ false → calls ≡ known → NoStops known → to ≡ next → is_over next ≡ false
    → Outcome place happened calls to
on place happened calls known to next open_still are none is lives =
    (open_still, inr (record { lives = ap is_over is ∙ lives; no_stops = subst NoStops (sym are) none }))

fails : (place : ControlPoint) (happened : Event) (calls : List PortEvent) (to : ControlPoint)
    → is_over place ≡ false → to ≡ Ended → is_end happened ≡ true → Outcome place happened calls to
fails place happened calls to open_still ended is = (open_still, inl (record { ended = ended; is_so = is }))

module _ (d : Definition) (who : Identity) (q : PortState) where
  outcome : (place : ControlPoint) (s : Store) (happened : Event) (calls : List PortEvent) (done : List Effect)
      (to : ControlPoint) (t : Store) → Happens d who q place s happened calls done to t
      → Outcome place happened calls to
  outcome AtStart s (event.Start at) calls done to t h =
      on AtStart (event.Start at) calls [] to (Doing None h.4.0) refl h.0 tt h.4.2 refl
  outcome AtStart s (event.Cut state) calls done to t h = on AtStart (event.Cut state) calls [] to Closed refl h.0 tt
      h.3 refl
  outcome AtStart s (event.Failed why) calls done to t h = fails AtStart (event.Failed why) calls to refl h.3 refl
  outcome AtStart s happened calls done to t h = absurd h
  outcome (In n) s (event.Consumed at got) calls done to t h =
      on (In n) (event.Consumed at got) calls (Take h.1.classes (Consumed got) ∷ []) to
      (Receiving (Some n) h.1.variables (event.values_got got) h.1.next) refl h.1.calls_are tt h.1.place refl
  outcome (In n) s (event.Prior at got) calls done to t h =
      on (In n) (event.Prior at got) calls (Take h.1.classes (Consumed got) ∷ []) to
      (Receiving (Some n) h.1.variables (event.values_got got) h.1.next) refl h.1.calls_are tt h.1.place refl
  outcome (In n) s (event.Discarded at got) calls done to t h =
      on (In n) (event.Discarded at got) calls (Take h.1.classes (Discarded got) ∷ []) to (In n) refl h.1.calls_are tt
      h.1.place refl
  outcome (In n) s (event.Provided at number) calls done to t h =
      on (In n) (event.Provided at number) calls (Take h.1.classes Nothing ∷ []) to (Doing (Some n) h.1.next) refl
      h.1.calls_are tt h.1.place refl
  outcome (In n) s (event.FailedAt at why) calls done to t h =
      fails (In n) (event.FailedAt at why) calls to refl h.1.place refl
  outcome (In n) s (event.Rest state) calls done to t h = on (In n) (event.Rest state) calls [] to Closed refl h.0 tt
      h.3 refl
  outcome (In n) s (event.Cut state) calls done to t h = on (In n) (event.Cut state) calls [] to Closed refl h.0 tt h.3
      refl
  outcome (In n) s (event.Failed why) calls done to t h = fails (In n) (event.Failed why) calls to refl h.3 refl
  outcome (In n) s happened calls done to t h = absurd h
  outcome (Receiving origin variables values next) s (event.Failed why) calls done to t h =
      fails (Receiving origin variables values next) (event.Failed why) calls to refl h.3 refl
  outcome (Receiving origin variables values next) s happened calls done to t h = absurd h
  outcome (Doing origin (body.ending (body.to_state n))) s (event.NextState n') calls done to t h =
      on (Doing origin (body.ending (body.to_state n))) (event.NextState n') calls [] to (In n) refl h.0 tt h.3 refl
  outcome (Doing origin (body.ending (body.to_state n))) s (event.Failed why) calls done to t h =
      fails (Doing origin (body.ending (body.to_state n))) (event.Failed why) calls to refl h.3 refl
  outcome (Doing origin (body.ending (body.to_state n))) s happened calls done to t h = absurd h
  outcome (Doing (Some n) (body.ending body.to_same)) s (event.NextState n') calls done to t h =
      on (Doing (Some n) (body.ending body.to_same)) (event.NextState n') calls [] to (In n) refl h.0 tt h.3 refl
  outcome (Doing (Some n) (body.ending body.to_same)) s (event.Failed why) calls done to t h =
      fails (Doing (Some n) (body.ending body.to_same)) (event.Failed why) calls to refl h.3 refl
  outcome (Doing (Some n) (body.ending body.to_same)) s happened calls done to t h = absurd h
  outcome (Doing None (body.ending body.to_same)) s (event.Failed why) calls done to t h =
      fails (Doing None (body.ending body.to_same)) (event.Failed why) calls to refl h.3 refl
  outcome (Doing None (body.ending body.to_same)) s happened calls done to t h = absurd h
  outcome (Doing origin (body.ending body.stop)) s event.Stop calls done to t h =
      fails (Doing origin (body.ending body.stop)) event.Stop calls to refl h.2 refl
  outcome (Doing origin (body.ending body.stop)) s (event.Failed why) calls done to t h =
      fails (Doing origin (body.ending body.stop)) (event.Failed why) calls to refl h.3 refl
  outcome (Doing origin (body.ending body.stop)) s happened calls done to t h = absurd h
  outcome (Doing origin (body.ending (body.join label))) s (event.Failed why) calls done to t h =
      fails (Doing origin (body.ending (body.join label))) (event.Failed why) calls to refl h.3 refl
  outcome (Doing origin (body.ending (body.join label))) s happened calls done to t h = absurd h
  outcome (Doing origin body.nothing) s (event.Failed why) calls done to t h =
      fails (Doing origin body.nothing) (event.Failed why) calls to refl h.3 refl
  outcome (Doing origin body.nothing) s happened calls done to t h = absurd h
  outcome (Doing origin (body.action first rest)) s (event.Failed why) calls done to t h =
      fails (Doing origin (body.action first rest)) (event.Failed why) calls to refl h.3 refl
  outcome (Doing origin (body.action first rest)) s happened calls done to t h = absurd h
  outcome (Doing origin (body.decision question parts rest)) s (event.Failed why) calls done to t h =
      fails (Doing origin (body.decision question parts rest)) (event.Failed why) calls to refl h.3 refl
  outcome (Doing origin (body.decision question parts rest)) s happened calls done to t h = absurd h
  outcome (Doing origin (body.label number rest)) s (event.Failed why) calls done to t h =
      fails (Doing origin (body.label number rest)) (event.Failed why) calls to refl h.3 refl
  outcome (Doing origin (body.label number rest)) s happened calls done to t h = absurd h
  outcome (Amid origin (body.task []) rest) s (event.Failed why) calls done to t h =
      fails (Amid origin (body.task []) rest) (event.Failed why) calls to refl h.3 refl
  outcome (Amid origin (body.task []) rest) s happened calls done to t h = absurd h
  outcome (Amid origin (body.task (one ∷ more)) rest) s (event.Task variable value) calls done to t h =
      on (Amid origin (body.task (one ∷ more)) rest) (event.Task variable value) calls [] to
      (Amid origin (body.task more) rest) refl h.0 tt h.2 refl
  outcome (Amid origin (body.task (one ∷ more)) rest) s (event.Failed why) calls done to t h =
      fails (Amid origin (body.task (one ∷ more)) rest) (event.Failed why) calls to refl h.3 refl
  outcome (Amid origin (body.task (one ∷ more)) rest) s happened calls done to t h = absurd h
  outcome (Amid origin (body.output [] whom) rest) s (event.Failed why) calls done to t h =
      fails (Amid origin (body.output [] whom) rest) (event.Failed why) calls to refl h.3 refl
  outcome (Amid origin (body.output [] whom) rest) s happened calls done to t h = absurd h
  outcome (Amid origin (body.output (one ∷ more) whom) rest) s (event.Output signal named values target) calls done to t
      h =
      on (Amid origin (body.output (one ∷ more) whom) rest) (event.Output signal named values target) calls [] to
      (Amid origin (body.output more whom) rest) refl h.0 tt h.1 refl
  outcome (Amid origin (body.output (one ∷ more) whom) rest) s (event.Failed why) calls done to t h =
      fails (Amid origin (body.output (one ∷ more) whom) rest) (event.Failed why) calls to refl h.3 refl
  outcome (Amid origin (body.output (one ∷ more) whom) rest) s happened calls done to t h = absurd h
  outcome (Amid origin (body.set []) rest) s (event.Failed why) calls done to t h =
      fails (Amid origin (body.set []) rest) (event.Failed why) calls to refl h.3 refl
  outcome (Amid origin (body.set []) rest) s happened calls done to t h = absurd h
  outcome (Amid origin (body.set (one ∷ more)) rest) s (event.Set key due) calls done to t h =
      on (Amid origin (body.set (one ∷ more)) rest) (event.Set key due) calls (Set key due (q.sets + 1) ∷ []) to
      (Amid origin (body.set more) rest) refl h.2.calls_are tt h.0 refl
  outcome (Amid origin (body.set (one ∷ more)) rest) s (event.Failed why) calls done to t h =
      fails (Amid origin (body.set (one ∷ more)) rest) (event.Failed why) calls to refl h.3 refl
  outcome (Amid origin (body.set (one ∷ more)) rest) s happened calls done to t h = absurd h
  outcome (Amid origin (body.reset []) rest) s (event.Failed why) calls done to t h =
      fails (Amid origin (body.reset []) rest) (event.Failed why) calls to refl h.3 refl
  outcome (Amid origin (body.reset []) rest) s happened calls done to t h = absurd h
  outcome (Amid origin (body.reset (one ∷ more)) rest) s (event.Reset key) calls done to t h =
      on (Amid origin (body.reset (one ∷ more)) rest) (event.Reset key) calls (Reset key ∷ []) to
      (Amid origin (body.reset more) rest) refl h.0 tt h.2 refl
  outcome (Amid origin (body.reset (one ∷ more)) rest) s (event.Failed why) calls done to t h =
      fails (Amid origin (body.reset (one ∷ more)) rest) (event.Failed why) calls to refl h.3 refl
  outcome (Amid origin (body.reset (one ∷ more)) rest) s happened calls done to t h = absurd h
  outcome (Amid origin (body.create process terms) rest) s (event.Create process' number) calls done to t h =
      on (Amid origin (body.create process terms) rest) (event.Create process' number) calls [] to (Doing origin rest)
      refl h.0 tt h.2 refl
  outcome (Amid origin (body.create process terms) rest) s (event.Failed why) calls done to t h =
      fails (Amid origin (body.create process terms) rest) (event.Failed why) calls to refl h.3 refl
  outcome (Amid origin (body.create process terms) rest) s happened calls done to t h = absurd h
  outcome Ended s (event.Failed why) calls done to t h = absurd (neither h.2)
  outcome Ended s happened calls done to t h = absurd h
  outcome Closed s (event.Failed why) calls done to t h = absurd (neither h.2)
  outcome Closed s happened calls done to t h = absurd h

  -- a step without an event leads from and to a place that is not the end
  abbrev Turn : ControlPoint → ControlPoint → Type 0
  Turn place to = (is_over place ≡ false) × (is_over to ≡ false)

  turn : (place : ControlPoint) (s : Store) (to : ControlPoint) (t : Store) → LeadsSilently d who q place s to t
      → Turn place to
  turn AtStart s to t h = absurd h
  turn (In n) s to t h = absurd h
  turn (Receiving origin (Some variable ∷ variables) (value ∷ values) next) s to t h = (refl, ap is_over h.0)
  turn (Receiving origin (None ∷ variables) (value ∷ values) next) s to t h = (refl, ap is_over h.0)
  turn (Receiving origin (Some variable ∷ variables) [] next) s to t h = (refl, ap is_over h.0)
  turn (Receiving origin (None ∷ variables) [] next) s to t h = (refl, ap is_over h.0)
  turn (Receiving origin [] values next) s to t h = (refl, ap is_over h.0)
  turn (Doing origin body.nothing) s to t h = absurd h
  turn (Doing origin (body.action first rest)) s to t h = (refl, ap is_over h.0)
  turn (Doing origin (body.decision question parts rest)) s to t h = (refl, ap is_over h.1.2)
  turn (Doing origin (body.label number rest)) s to t h = (refl, ap is_over h.0)
  turn (Doing origin (body.ending (body.to_state n))) s to t h = absurd h
  turn (Doing origin (body.ending body.to_same)) s to t h = absurd h
  turn (Doing origin (body.ending body.stop)) s to t h = absurd h
  turn (Doing origin (body.ending (body.join label))) s to t h = (refl, ap is_over h.1.2)
  turn (Amid origin (body.task []) rest) s to t h = (refl, ap is_over h.0)
  turn (Amid origin (body.task (one ∷ more)) rest) s to t h = absurd h
  turn (Amid origin (body.output [] whom) rest) s to t h = (refl, ap is_over h.0)
  turn (Amid origin (body.output (one ∷ more) whom) rest) s to t h = absurd h
  turn (Amid origin (body.set []) rest) s to t h = (refl, ap is_over h.0)
  turn (Amid origin (body.set (one ∷ more)) rest) s to t h = absurd h
  turn (Amid origin (body.reset []) rest) s to t h = (refl, ap is_over h.0)
  turn (Amid origin (body.reset (one ∷ more)) rest) s to t h = absurd h
  turn (Amid origin (body.create process terms) rest) s to t h = absurd h
  turn Ended s to t h = absurd h
  turn Closed s to t h = absurd h

-- ---- a port that lives

taken_alive : (classes : List Class) (old new : PortState) (reply : Taken) → Takes classes old reply new
    → new.alive ≡ old.alive
taken_alive classes old new (Consumed got) (inl first) = ap (λ (q : PortState). q.alive) first.0.now
taken_alive classes old new (Consumed got) (inr later) = ap (λ (q : PortState). q.alive) later.1.now
taken_alive classes old new (Discarded got) takes = ap (λ (q : PortState). q.alive) takes.1.now
taken_alive classes old new Nothing takes = ap (λ (q : PortState). q.alive) takes.1

put_alive : (old : PortState) (b : Bool) (other : PortState) → other.alive ≡ old.alive
    → (if b then other else old).alive ≡ old.alive
put_alive old true other same = same
put_alive old false other same = refl

outside_alive : (old new : PortState) (heard : PortEvent) → IsFromOutside heard → PortStep old heard new
    → new.alive ≡ old.alive
outside_alive old new (Put item) outside step =
    ap (λ (q : PortState). q.alive) step
    ∙ put_alive old old.alive (record old { waiting = old.waiting ++ Signal item ∷ [] }) refl
outside_alive old new (Expire key arm due at) outside step =
    ap (λ (q : PortState). q.alive) step
    ∙ put_alive old (expires old key arm due at)
    (record old { waiting = old.waiting ++ Timer key ∷ []; timers = with_waiting key arm old.timers }) refl
outside_alive old new (Take classes taken) outside step = absurd outside
outside_alive old new (Set key due arm) outside step = absurd outside
outside_alive old new (Reset key) outside step = absurd outside
outside_alive old new Stop outside step = absurd outside

calls_alive : (old : PortState) (calls : List PortEvent) (new : PortState) → NoStops calls → IsLegal old calls new
    → new.alive ≡ old.alive
calls_alive old [] new none legal = ap (λ (q : PortState). q.alive) legal
calls_alive old (Put item ∷ rest) new none legal =
    calls_alive legal.0 rest new none legal.2 ∙ outside_alive old legal.0 (Put item) tt legal.1
calls_alive old (Expire key arm due at ∷ rest) new none legal =
    calls_alive legal.0 rest new none legal.2 ∙ outside_alive old legal.0 (Expire key arm due at) tt legal.1
calls_alive old (Take classes taken ∷ rest) new none legal =
    calls_alive legal.0 rest new none legal.2 ∙ taken_alive classes old legal.0 taken legal.1.1
calls_alive old (Set key due arm ∷ rest) new none legal =
    calls_alive legal.0 rest new none legal.2 ∙ ap (λ (q : PortState). q.alive) legal.1.2
calls_alive old (Reset key ∷ rest) new none legal =
    calls_alive legal.0 rest new none legal.2 ∙ ap (λ (q : PortState). q.alive) legal.1.1
calls_alive old (Stop ∷ rest) new none legal = absurd none

-- ---- runs

-- nothing comes to two places, of which one is the end
apart : (to : ControlPoint) → is_over to ≡ false → to ≡ Ended → ⊥
apart to lives ended = let wrong : true ≡ false = sym (ap is_over ended) ∙ lives in cc

not_false : (to : ControlPoint) → to ≡ Ended → is_over to ≡ false → ⊥
not_false to ended lives = apart to lives ended

module _ (d : Definition) (who : Identity) (from : ControlPoint) (s : Store) (q : PortState) where
  -- the port of an instance that has not ended lives, if it did
  pub runs_alive : {deeds : List Deed} {history : List PortEvent} {to : ControlPoint} {t : Store} {r : PortState}
      → q.alive ≡ true → Runs d who from s q deeds history to t r → is_over to ≡ false → r.alive ≡ true
  runs_alive alive still lives = alive
  runs_alive alive (acts {at = at} {mid = mid} {port = port} before deed to t r leads legal) lives =
      let out : Outcome at deed.event deed.calls to =
      outcome d who port at mid deed.event deed.calls deed.effects to t leads in
      elim out.1 [
        | inl ends ↦ absurd (not_false to ends.ended lives)
        | inr goes_on ↦ calls_alive port deed.calls r goes_on.no_stops legal ∙ runs_alive alive before out.0
      ]
  runs_alive alive (turns {at = at} {mid = mid} {port = port} before to t silent) lives =
      runs_alive alive before (turn d who port at mid to t silent).0
  runs_alive alive (hears {port = port} before heard r outside step) lives =
      outside_alive port r heard outside step ∙ runs_alive alive before lives
  runs_alive alive (waits before classes quiet step) lives = runs_alive alive before lives

  -- the record of one that has ended ends with a stop or a failure
  pub ends_in_end : {deeds : List Deed} {history : List PortEvent} {to : ControlPoint} {t : Store} {r : PortState}
      → is_over from ≡ false → Runs d who from s q deeds history to t r → to ≡ Ended
      → EndsIn IsEnd (events_of deeds)
  ends_in_end begun still e = absurd (apart from begun e)
  ends_in_end begun (acts {deeds = deeds} {at = at} {mid = mid} {port = port} before deed to t r leads legal) e =
      let out : Outcome at deed.event deed.calls to =
      outcome d who port at mid deed.event deed.calls deed.effects to t leads in
      elim out.1 [
        | inl ends ↦ record {
          before = events_of deeds;
          last = deed.event;
          events_are = map-append (λ (one : Deed). one.event) deeds (deed ∷ []);
          is_so = ends.is_so;
        }
        | inr goes_on ↦ absurd (apart to goes_on.lives e)
      ]
  ends_in_end begun (turns {at = at} {mid = mid} {port = port} before to t silent) e =
      absurd (apart to (turn d who port at mid to t silent).1 e)
  ends_in_end begun (hears before heard r outside step) e = ends_in_end begun before e
  ends_in_end begun (waits before classes quiet step) e = ends_in_end begun before e
