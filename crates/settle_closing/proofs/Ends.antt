-- A run that comes to the end of its instance ends with a stop or a failure.
use Rattle.std.proofs.Common.{◌≡◌, ◌∙◌, ap, refl, sym, Bool, true, false, List, [], ◌∷◌, None, Some}
use Rattle.std.proofs.lemmas.List.{map-append}
use Rattle.port_model.specs.History.{PortEvent}
use Rattle.port_model.specs.Port.{PortState}
use Rattle.run_record.specs.declared.evaluation.identity.Identity.{Identity}
use Rattle.run_record.specs.declared.evaluation.store.Store.{Store}
use Rattle.run_record.specs.Event as event
use Rattle.run_record.specs.Event.{Event}
use Rattle.run_semantics.specs.ControlPoint.{Amid, AtStart, Closed, ControlPoint, Definition, Doing, Ended, In, Receiving}
use Rattle.run_semantics.specs.Effect.{Deed, Effect, events_of}
use Rattle.run_semantics.specs.Leads.{Happens, LeadsSilently}
use Rattle.run_semantics.specs.Runs.{Runs, acts, hears, still, turns, waits}
use Rattle.sdl_system.specs.Body as body
use Rattle.settle_meaning.specs.Closed.{EndsIn, IsEnd}
use Rattle.settle_meaning.specs.Living.{is_end}

abbrev is_over : ControlPoint → Bool
is_over Ended = true
is_over place = false

true_false : true ≡ false → ⊥
true_false same = cc

-- what comes to another place doesn't come to the end
differs : (to place : ControlPoint) → to ≡ place → to ≡ Ended → is_over place ≡ false → ⊥
differs to place is ended not = true_false (sym (ap is_over ended) ∙ ap is_over is ∙ not)

module _ (d : Definition) (who : Identity) (q : PortState) where
  -- an event that leads to the end is a stop or a failure
  end_happens : (place : ControlPoint) (s : Store) (happened : Event) (calls : List PortEvent) (done : List Effect)
      (to : ControlPoint) (t : Store) → Happens d who q place s happened calls done to t → to ≡ Ended
      → is_end happened ≡ true
  end_happens AtStart s (event.Start at) calls done to t h e = absurd (differs to (Doing None h.4.0) h.4.2 e refl)
  end_happens AtStart s (event.Cut state) calls done to t h e = absurd (differs to Closed h.3 e refl)
  end_happens AtStart s (event.Failed why) calls done to t h e = refl
  end_happens AtStart s happened calls done to t h e = absurd h
  end_happens (In n) s (event.Consumed at got) calls done to t h e =
      absurd (differs to (Receiving (Some n) h.1.variables (event.values_got got) h.1.next) h.1.place e refl)
  end_happens (In n) s (event.Prior at got) calls done to t h e =
      absurd (differs to (Receiving (Some n) h.1.variables (event.values_got got) h.1.next) h.1.place e refl)
  end_happens (In n) s (event.Discarded at got) calls done to t h e = absurd (differs to (In n) h.1.place e refl)
  end_happens (In n) s (event.Provided at number) calls done to t h e =
      absurd (differs to (Doing (Some n) h.1.next) h.1.place e refl)
  end_happens (In n) s (event.FailedAt at why) calls done to t h e = refl
  end_happens (In n) s (event.Rest state) calls done to t h e = absurd (differs to Closed h.3 e refl)
  end_happens (In n) s (event.Cut state) calls done to t h e = absurd (differs to Closed h.3 e refl)
  end_happens (In n) s (event.Failed why) calls done to t h e = refl
  end_happens (In n) s happened calls done to t h e = absurd h
  end_happens (Receiving origin variables values next) s (event.Failed why) calls done to t h e = refl
  end_happens (Receiving origin variables values next) s happened calls done to t h e = absurd h
  end_happens (Doing origin body.nothing) s (event.Failed why) calls done to t h e = refl
  end_happens (Doing origin body.nothing) s happened calls done to t h e = absurd h
  end_happens (Doing origin (body.action first rest)) s (event.Failed why) calls done to t h e = refl
  end_happens (Doing origin (body.action first rest)) s happened calls done to t h e = absurd h
  end_happens (Doing origin (body.decision question parts rest)) s (event.Failed why) calls done to t h e = refl
  end_happens (Doing origin (body.decision question parts rest)) s happened calls done to t h e = absurd h
  end_happens (Doing origin (body.label number rest)) s (event.Failed why) calls done to t h e = refl
  end_happens (Doing origin (body.label number rest)) s happened calls done to t h e = absurd h
  end_happens (Doing origin (body.ending (body.to_state n))) s (event.NextState n') calls done to t h e =
      absurd (differs to (In n) h.3 e refl)
  end_happens (Doing origin (body.ending (body.to_state n))) s (event.Failed why) calls done to t h e = refl
  end_happens (Doing origin (body.ending (body.to_state n))) s happened calls done to t h e = absurd h
  end_happens (Doing (Some n) (body.ending body.to_same)) s (event.NextState n') calls done to t h e =
      absurd (differs to (In n) h.3 e refl)
  end_happens (Doing (Some n) (body.ending body.to_same)) s (event.Failed why) calls done to t h e = refl
  end_happens (Doing (Some n) (body.ending body.to_same)) s happened calls done to t h e = absurd h
  end_happens (Doing None (body.ending body.to_same)) s (event.Failed why) calls done to t h e = refl
  end_happens (Doing None (body.ending body.to_same)) s happened calls done to t h e = absurd h
  end_happens (Doing origin (body.ending body.stop)) s event.Stop calls done to t h e = refl
  end_happens (Doing origin (body.ending body.stop)) s (event.Failed why) calls done to t h e = refl
  end_happens (Doing origin (body.ending body.stop)) s happened calls done to t h e = absurd h
  end_happens (Doing origin (body.ending (body.join label))) s (event.Failed why) calls done to t h e = refl
  end_happens (Doing origin (body.ending (body.join label))) s happened calls done to t h e = absurd h
  end_happens (Amid origin (body.task []) rest) s (event.Failed why) calls done to t h e = refl
  end_happens (Amid origin (body.task []) rest) s happened calls done to t h e = absurd h
  end_happens (Amid origin (body.task (one ∷ more)) rest) s (event.Task variable value) calls done to t h e =
      absurd (differs to (Amid origin (body.task more) rest) h.2 e refl)
  end_happens (Amid origin (body.task (one ∷ more)) rest) s (event.Failed why) calls done to t h e = refl
  end_happens (Amid origin (body.task (one ∷ more)) rest) s happened calls done to t h e = absurd h
  end_happens (Amid origin (body.output [] whom) rest) s (event.Failed why) calls done to t h e = refl
  end_happens (Amid origin (body.output [] whom) rest) s happened calls done to t h e = absurd h
  end_happens (Amid origin (body.output (one ∷ more) whom) rest) s (event.Output signal named values target) calls done
      to t h e = absurd (differs to (Amid origin (body.output more whom) rest) h.1 e refl)
  end_happens (Amid origin (body.output (one ∷ more) whom) rest) s (event.Failed why) calls done to t h e = refl
  end_happens (Amid origin (body.output (one ∷ more) whom) rest) s happened calls done to t h e = absurd h
  end_happens (Amid origin (body.set []) rest) s (event.Failed why) calls done to t h e = refl
  end_happens (Amid origin (body.set []) rest) s happened calls done to t h e = absurd h
  end_happens (Amid origin (body.set (one ∷ more)) rest) s (event.Set key due) calls done to t h e =
      absurd (differs to (Amid origin (body.set more) rest) h.0 e refl)
  end_happens (Amid origin (body.set (one ∷ more)) rest) s (event.Failed why) calls done to t h e = refl
  end_happens (Amid origin (body.set (one ∷ more)) rest) s happened calls done to t h e = absurd h
  end_happens (Amid origin (body.reset []) rest) s (event.Failed why) calls done to t h e = refl
  end_happens (Amid origin (body.reset []) rest) s happened calls done to t h e = absurd h
  end_happens (Amid origin (body.reset (one ∷ more)) rest) s (event.Reset key) calls done to t h e =
      absurd (differs to (Amid origin (body.reset more) rest) h.2 e refl)
  end_happens (Amid origin (body.reset (one ∷ more)) rest) s (event.Failed why) calls done to t h e = refl
  end_happens (Amid origin (body.reset (one ∷ more)) rest) s happened calls done to t h e = absurd h
  end_happens (Amid origin (body.create process terms) rest) s (event.Create process' number) calls done to t h e =
      absurd (differs to (Doing origin rest) h.2 e refl)
  end_happens (Amid origin (body.create process terms) rest) s (event.Failed why) calls done to t h e = refl
  end_happens (Amid origin (body.create process terms) rest) s happened calls done to t h e = absurd h
  end_happens Ended s (event.Failed why) calls done to t h e = refl
  end_happens Ended s happened calls done to t h e = absurd h
  end_happens Closed s (event.Failed why) calls done to t h e = refl
  end_happens Closed s happened calls done to t h e = absurd h

  -- no step without an event leads there
  no_turn : (place : ControlPoint) (s : Store) (to : ControlPoint) (t : Store) → LeadsSilently d who q place s to t
      → to ≡ Ended → ⊥
  no_turn AtStart s to t h e = h
  no_turn (In n) s to t h e = h
  no_turn (Receiving origin (Some variable ∷ variables) (value ∷ values) next) s to t h e =
      differs to (Receiving origin variables values next) h.0 e refl
  no_turn (Receiving origin (None ∷ variables) (value ∷ values) next) s to t h e =
      differs to (Receiving origin variables values next) h.0 e refl
  no_turn (Receiving origin (Some variable ∷ variables) [] next) s to t h e = differs to (Doing origin next) h.0 e refl
  no_turn (Receiving origin (None ∷ variables) [] next) s to t h e = differs to (Doing origin next) h.0 e refl
  no_turn (Receiving origin [] values next) s to t h e = differs to (Doing origin next) h.0 e refl
  no_turn (Doing origin body.nothing) s to t h e = h
  no_turn (Doing origin (body.action first rest)) s to t h e = differs to (Amid origin first rest) h.0 e refl
  no_turn (Doing origin (body.decision question parts rest)) s to t h e = differs to (Doing origin h.1.0) h.1.2 e refl
  no_turn (Doing origin (body.label number rest)) s to t h e = differs to (Doing origin rest) h.0 e refl
  no_turn (Doing origin (body.ending (body.to_state n))) s to t h e = h
  no_turn (Doing origin (body.ending body.to_same)) s to t h e = h
  no_turn (Doing origin (body.ending body.stop)) s to t h e = h
  no_turn (Doing origin (body.ending (body.join label))) s to t h e = differs to (Doing origin h.1.0) h.1.2 e refl
  no_turn (Amid origin (body.task []) rest) s to t h e = differs to (Doing origin rest) h.0 e refl
  no_turn (Amid origin (body.task (one ∷ more)) rest) s to t h e = h
  no_turn (Amid origin (body.output [] whom) rest) s to t h e = differs to (Doing origin rest) h.0 e refl
  no_turn (Amid origin (body.output (one ∷ more) whom) rest) s to t h e = h
  no_turn (Amid origin (body.set []) rest) s to t h e = differs to (Doing origin rest) h.0 e refl
  no_turn (Amid origin (body.set (one ∷ more)) rest) s to t h e = h
  no_turn (Amid origin (body.reset []) rest) s to t h e = differs to (Doing origin rest) h.0 e refl
  no_turn (Amid origin (body.reset (one ∷ more)) rest) s to t h e = h
  no_turn (Amid origin (body.create process terms) rest) s to t h e = h
  no_turn Ended s to t h e = h
  no_turn Closed s to t h e = h

module _ (d : Definition) (who : Identity) (s : Store) (q : PortState) where
  pub ends_in_end : {deeds : List Deed} {history : List PortEvent} {to : ControlPoint} {t : Store} {r : PortState}
      → Runs d who AtStart s q deeds history to t r → to ≡ Ended → EndsIn IsEnd (events_of deeds)
  ends_in_end still e = absurd (differs AtStart AtStart refl e refl)
  ends_in_end (acts {deeds = deeds} {at = at} {mid = mid} {port = port} before deed to t r leads legal) e = record {
    before = events_of deeds;
    last = deed.event;
    events_are = map-append (λ (one : Deed). one.event) deeds (deed ∷ []);
    is_so = end_happens d who port at mid deed.event deed.calls deed.effects to t leads e;
  }
  ends_in_end (turns {at = at} {mid = mid} {port = port} before to t turn) e =
      absurd (no_turn d who port at mid to t turn e)
  ends_in_end (hears before heard r outside step) e = ends_in_end before e
  ends_in_end (waits before classes quiet step) e = ends_in_end before e
