-- What fails an instance in a state ends it, and does nothing outside.
use Rattle.std.proofs.Common.{◌≡◌, ◌⊎◌, ◌++◌, ◌∷◌, ◌∙◌, Bool, List, None, Some, [], ap, false, inl, inr, refl, subst, ℕ}
use Rattle.port_model.specs.History.{IsLegal, PortEvent}
use Rattle.port_model.specs.Port.{PortState}
use Rattle.serial_order.specs.Execution.{is_transition}
use Rattle.run_record.specs.declared.evaluation.identity.Identity.{Identity}
use Rattle.run_record.specs.declared.evaluation.store.Store.{Store}
use Rattle.run_record.specs.Event as event
use Rattle.run_record.specs.Event.{Event, is_beginning}
use Rattle.run_record.specs.declared.failure.Failure.{Failure}
use Rattle.run_semantics.proofs.Ends.{ends_for_good}
use Rattle.run_semantics.specs.Effect.{Effect, Deed, effects_of}
use Rattle.run_semantics.specs.Goes.{IsFirst, IsOneStep}
use Rattle.run_semantics.specs.Leads.{Happens, Leads, LeadsSilently}
use Rattle.run_semantics.specs.ControlPoint.{Amid, AtStart, Closed, Definition, Doing, Ended, In, ControlPoint, Receiving}
use Rattle.run_semantics.specs.Runs.{Runs, acts, hears, still, turns, waits}
use Rattle.sdl_system.specs.Body as body

module _ (d : Definition) (who : Identity) (q : PortState) (s : Store) (at : ℕ) (why : Failure)
    (calls : List PortEvent) (done : List Effect) (to : ControlPoint) (t : Store) where
  -- such a failure leads to the end, and does nothing outside
  happens_refused : (place : ControlPoint) → Happens d who q place s (event.FailedAt at why) calls done to t
      → (done ≡ []) × (to ≡ Ended)
  happens_refused AtStart happens = absurd happens
  happens_refused (In n) happens = (happens.0, happens.1.place)
  happens_refused (Receiving origin variables values rest) happens = absurd happens
  happens_refused (Doing origin (body.ending (body.to_state n))) happens = absurd happens
  happens_refused (Doing (Some n) (body.ending body.to_same)) happens = absurd happens
  happens_refused (Doing None (body.ending body.to_same)) happens = absurd happens
  happens_refused (Doing origin (body.ending body.stop)) happens = absurd happens
  happens_refused (Doing origin (body.ending (body.join label))) happens = absurd happens
  happens_refused (Doing origin body.nothing) happens = absurd happens
  happens_refused (Doing origin (body.action first rest)) happens = absurd happens
  happens_refused (Doing origin (body.decision question parts rest)) happens = absurd happens
  happens_refused (Doing origin (body.label number rest)) happens = absurd happens
  happens_refused (Amid origin (body.task []) rest) happens = absurd happens
  happens_refused (Amid origin (body.task (one ∷ more)) rest) happens = absurd happens
  happens_refused (Amid origin (body.output [] whom) rest) happens = absurd happens
  happens_refused (Amid origin (body.output (one ∷ more) whom) rest) happens = absurd happens
  happens_refused (Amid origin (body.set []) rest) happens = absurd happens
  happens_refused (Amid origin (body.set (one ∷ more)) rest) happens = absurd happens
  happens_refused (Amid origin (body.reset []) rest) happens = absurd happens
  happens_refused (Amid origin (body.reset (one ∷ more)) rest) happens = absurd happens
  happens_refused (Amid origin (body.create process terms) rest) happens = absurd happens
  happens_refused Ended happens = absurd happens
  happens_refused Closed happens = absurd happens

last_of : (deeds : List Deed) (deed first : Deed) (rest : List Deed) → deeds ++ deed ∷ [] ≡ first ∷ rest
    → ((deeds ≡ []) × (deed ≡ first) × (rest ≡ [])) ⊎ ((more : List Deed) × (deeds ≡ first ∷ more))
last_of [] deed first rest e = inl (refl, cc, cc)
last_of (other ∷ more) deed first rest e = inr (more, cc)

pub record EndsThere (first : Deed) (rest : List Deed) (to : ControlPoint) : Type 0 where
  pub effects_are : first.effects ≡ []
  pub none : rest ≡ []
  pub ended : to ≡ Ended

ends_there : (d : Definition) (who : Identity) (port : PortState) (place : ControlPoint) (s : Store) (first deed : Deed)
    (to : ControlPoint) (t : Store) (at : ℕ) (why : Failure) (rest : List Deed) → first.event ≡ event.FailedAt at why
    → deed ≡ first → rest ≡ [] → Leads d who port place s deed to t → EndsThere first rest to
ends_there d who port place s first deed to t at why rest is same none leads =
    let fails = subst (λ (e : Event). Happens d who port place s e first.calls first.effects to t) is
    (subst (λ (one : Deed). Leads d who port place s one to t) same leads) in
    let by = happens_refused d who port s at why first.calls first.effects to t place fails in
    record { effects_are = by.0; none = none; ended = by.1 }

-- what has ended goes no further
from_ended : (d : Definition) (who : Identity) (port r : PortState) (place : ControlPoint) (s : Store) (deed : Deed)
    (to : ControlPoint) (t : Store) → place ≡ Ended → Leads d who port place s deed to t → IsLegal port deed.calls r → ⊥
from_ended d who port r place s deed to t is leads legal =
    let run : Runs d who Ended s port ([] ++ deed ∷ []) ([] ++ deed.calls) to t r =
    acts still deed to t r (subst (λ (p : ControlPoint). Leads d who port p s deed to t) is leads) legal in
    let none : deed ∷ [] ≡ [] = (ends_for_good.0 d who to s t port r ([] ++ deed ∷ []) ([] ++ deed.calls) run).0 in
    cc

turn_ended : (d : Definition) (who : Identity) (port : PortState) (place : ControlPoint) (s : Store) (to : ControlPoint) (t : Store)
    → place ≡ Ended → LeadsSilently d who port place s to t → to ≡ Ended
turn_ended d who port place s to t is turn =
    let run : Runs d who Ended s port [] [] to t port =
    turns still to t (subst (λ (p : ControlPoint). LeadsSilently d who port p s to t) is turn) in
    (ends_for_good.0 d who to s t port port [] [] run).1

module _ (d : Definition) (who : Identity) (from : ControlPoint) (s : Store) (q : PortState) where
  refused : {deeds : List Deed} {history : List PortEvent} {to : ControlPoint} {t : Store} {r : PortState}
      → Runs d who from s q deeds history to t r → (first : Deed) (rest : List Deed) (at : ℕ) (why : Failure)
      → first.event ≡ event.FailedAt at why → deeds ≡ first ∷ rest → EndsThere first rest to
  refused still first rest at why is e = let no : ⊥ = cc in absurd no
  refused (acts {deeds = deeds} {at = place} {mid = mid} {port = port} run deed to t r leads legal) first rest at why is
      e =
      elim (last_of deeds deed first rest e) [
        | inl w ↦ ends_there d who port place mid first deed to t at why rest is w.1 w.2 leads
        | inr w ↦ absurd (from_ended d who port r place mid deed to t (refused run first w.0 at why is w.1).ended leads
            legal)
      ]
  refused (turns {at = place} {mid = mid} {port = port} run to t step) first rest at why is e =
      let there = refused run first rest at why is e in
      record {
        effects_are = there.effects_are;
        none = there.none;
        ended = turn_ended d who port place mid to t there.ended step;
      }
  refused (hears run heard r outside step) first rest at why is e = refused run first rest at why is e
  refused (waits run classes quiet step) first rest at why is e =
      let there = refused run first rest at why is e in let no : ⊥ = cc (there.ended) in absurd no

-- what begins a step, and no transition, is a failure
first_refused : (e : Event) → IsFirst e → is_beginning e ≡ false
    → (at : ℕ) × (why : Failure) × (e ≡ event.FailedAt at why)
first_refused (event.FailedAt at why) first none = (at, why, refl)
first_refused (event.Start at) first none = let no : ⊥ = cc in absurd no
first_refused (event.Consumed at got) first none = let no : ⊥ = cc in absurd no
first_refused (event.Prior at got) first none = let no : ⊥ = cc in absurd no
first_refused (event.Discarded at got) first none = let no : ⊥ = cc in absurd no
first_refused (event.Provided at number) first none = let no : ⊥ = cc in absurd no
first_refused happened first none = absurd first

-- then nothing is done outside
pub refused_effects : (d : Definition) (who : Identity) (from to : ControlPoint) (s t : Store) (q r : PortState)
    (deeds : List Deed) (history : List PortEvent) → Runs d who from s q deeds history to t r
    → IsOneStep false deeds → effects_of deeds ≡ []
refused_effects d who from to s t q r [] history runs one = absurd one
refused_effects d who from to s t q r (first ∷ rest) history runs one =
    let f = first_refused first.event one.0 one.1 in
    let there = refused d who from s q runs first rest f.0 f.1 f.2 refl in
    ap (λ (more : List Deed). effects_of (first ∷ more)) there.none
    ∙ ap (λ (done : List Effect). done ++ []) there.effects_are

-- whether a transition begins is what the step tells
pub counts_is : (counts : Bool) (deeds : List Deed) → IsOneStep counts deeds → is_transition deeds ≡ counts
counts_is counts [] one = absurd one
counts_is counts (first ∷ rest) one = one.1
