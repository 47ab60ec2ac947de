-- What has ended, or is closed, does nothing any more.
use Rattle.std.proofs.Common.{◌≡◌, ◌⊎◌, inl, inr, subst, refl, List, []}
use Rattle.port_model.specs.History.{PortEvent}
use Rattle.port_model.specs.Port.{PortState}
use Rattle.run_record.specs.declared.evaluation.identity.Identity.{Identity}
use Rattle.run_record.specs.declared.evaluation.store.Store.{Store}
use Rattle.run_record.specs.Event.{Event}
use Rattle.run_record.specs.Event as event
use Rattle.run_semantics.specs.Effect.{Effect, Deed}
use Rattle.run_semantics.specs.Leads.{Happens, Leads, LeadsSilently}
use Rattle.run_semantics.specs.ControlPoint.{Closed, Definition, Ended, ControlPoint}
use Rattle.run_semantics.specs.RunLaws.{EndsForGood, GoesNoFurther}
use Rattle.run_semantics.specs.Runs.{Runs, still, acts, turns, hears, waits}

-- no failure has a cause there
neither : {A : Type 0} → (A × ⊥) ⊎ ⊥ → ⊥
neither (inl memory) = memory.1
neither (inr cause) = cause

module _ (d : Definition) (who : Identity) (q : PortState) where
  ended_happens : (s : Store) (e : Event) (calls : List PortEvent) (done : List Effect) (to : ControlPoint) (t : Store)
      → Happens d who q Ended s e calls done to t → ⊥
  ended_happens s (event.Start at) calls done to t happens = happens
  ended_happens s (event.Consumed at got) calls done to t happens = happens
  ended_happens s (event.Prior at got) calls done to t happens = happens
  ended_happens s (event.Discarded at got) calls done to t happens = happens
  ended_happens s (event.Provided at number) calls done to t happens = happens
  ended_happens s (event.FailedAt at why) calls done to t happens = happens
  ended_happens s (event.Task variable value) calls done to t happens = happens
  ended_happens s (event.Output signal named values target) calls done to t happens = happens
  ended_happens s (event.Set key due) calls done to t happens = happens
  ended_happens s (event.Reset key) calls done to t happens = happens
  ended_happens s (event.Create process number) calls done to t happens = happens
  ended_happens s (event.NextState state) calls done to t happens = happens
  ended_happens s event.Stop calls done to t happens = happens
  ended_happens s (event.Rest state) calls done to t happens = happens
  ended_happens s (event.Cut state) calls done to t happens = happens
  ended_happens s (event.Failed why) calls done to t happens = neither happens.2

  closed_happens : (s : Store) (e : Event) (calls : List PortEvent) (done : List Effect) (to : ControlPoint) (t : Store)
      → Happens d who q Closed s e calls done to t → ⊥
  closed_happens s (event.Start at) calls done to t happens = happens
  closed_happens s (event.Consumed at got) calls done to t happens = happens
  closed_happens s (event.Prior at got) calls done to t happens = happens
  closed_happens s (event.Discarded at got) calls done to t happens = happens
  closed_happens s (event.Provided at number) calls done to t happens = happens
  closed_happens s (event.FailedAt at why) calls done to t happens = happens
  closed_happens s (event.Task variable value) calls done to t happens = happens
  closed_happens s (event.Output signal named values target) calls done to t happens = happens
  closed_happens s (event.Set key due) calls done to t happens = happens
  closed_happens s (event.Reset key) calls done to t happens = happens
  closed_happens s (event.Create process number) calls done to t happens = happens
  closed_happens s (event.NextState state) calls done to t happens = happens
  closed_happens s event.Stop calls done to t happens = happens
  closed_happens s (event.Rest state) calls done to t happens = happens
  closed_happens s (event.Cut state) calls done to t happens = happens
  closed_happens s (event.Failed why) calls done to t happens = neither happens.2

-- From a place from which no deed and no step leads a run stays where it is.
module _ (place : ControlPoint) (d : Definition) (who : Identity) (s : Store) (q : PortState)
    (no_deed : (r : PortState) (mid : Store) (deed : Deed) (to : ControlPoint) (t : Store)
    → Leads d who r place mid deed to t → ⊥)
    (no_turn : (r : PortState) (mid : Store) (to : ControlPoint) (t : Store) → LeadsSilently d who r place mid to t → ⊥) where
  stays : {deeds : List Deed} {history : List PortEvent} {to : ControlPoint} {t : Store} {r : PortState}
      → Runs d who place s q deeds history to t r → (deeds ≡ []) × (to ≡ place) × (t ≡ s)
  stays still = (refl, refl, refl)
  stays (acts {mid = mid} {port = port} before deed to t r leads legal) =
      absurd (no_deed port mid deed to t
      (subst (λ (at : ControlPoint). Leads d who port at mid deed to t) (stays before).1 leads))
  stays (turns {mid = mid} {port = port} before to t turn) =
      absurd (no_turn port mid to t (subst (λ (at : ControlPoint). LeadsSilently d who port at mid to t) (stays before).1 turn))
  stays (hears before heard r outside step) = stays before
  stays (waits before classes quiet step) = stays before

ended : GoesNoFurther Ended
ended d who to s t q r deeds history runs =
    stays Ended d who s q (λ port mid deed. ended_happens d who port mid deed.event deed.calls deed.effects)
    (λ port mid to t turn. turn) runs

closed : GoesNoFurther Closed
closed d who to s t q r deeds history runs =
    stays Closed d who s q (λ port mid deed. closed_happens d who port mid deed.event deed.calls deed.effects)
    (λ port mid to t turn. turn) runs

pub ends_for_good : EndsForGood
ends_for_good = (ended, closed)
