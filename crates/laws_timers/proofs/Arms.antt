-- What the sets of an instance arm, and the timers that run in its port behind a step.
use Rattle.std.proofs.Common.{◌≡◌, ◌⊎◌, ◌++◌, ◌+◌, arith, inl, inr, refl, subst, sym, ℕ, suc, List, [], ◌∷◌, None, Some}
use Rattle.std.specs.Prelude.{Contains}
use Rattle.port_model.specs.declared.inbox.entry.Fuse.{Fuse}
use Rattle.port_model.specs.History.{PortEvent, Reset, Set, Stop, Take}
use Rattle.port_model.specs.Port.{PortState}
use Rattle.port_model.specs.declared.taken.Taken.TheVariants as taken
use Rattle.run_record.specs.Environment.{Environment}
use Rattle.run_record.specs.declared.evaluation.identity.Identity.{Identity}
use Rattle.run_record.specs.declared.evaluation.store.Store.{Store}
use Rattle.laws_timers.proofs.Ports.{AreSetsOf, fused_legal, fused_more, fused_step, heard_sets, sets_more}
use Rattle.laws_timers.specs.Fused.{AreFused}
use Rattle.run_record.specs.Event as event
use Rattle.run_record.specs.Event.{Event}
use Rattle.run_record.specs.declared.failure.Failure.{Failure}
use Rattle.run_semantics.proofs.Deeds.{effects_of-append}
use Rattle.run_semantics.specs.Effect.{Effect, Arm, Deed, effects_of}
use Rattle.run_semantics.specs.Fails.{FailsIn, of_condition, of_continuous, of_event, of_take, of_trying}
use Rattle.run_semantics.specs.Leads.{Happens}
use Rattle.run_semantics.specs.ControlPoint.{Amid, AtStart, Closed, Definition, Doing, Ended, In, ControlPoint, Receiving}
use Rattle.run_semantics.specs.Runs.{Runs, acts, hears, still, turns, waits}
use Rattle.sdl_system.specs.Behaviour.{Behaviour, StateMeaning}
use Rattle.sdl_system.specs.Body as body

-- ---- elements

-- it is one of these
abbrev pub Among : {X : Type 0} → X → List X → Type 0
Among x [] = ⊥
Among x (first ∷ rest) = (x ≡ first) ⊎ Among x rest

pub among_left : {X : Type 0} (x : X) (first later : List X) → Among x first → Among x (first ++ later)
among_left x [] later is = absurd is
among_left x (y ∷ rest) later (inl same) = inl same
among_left x (y ∷ rest) later (inr is) = inr (among_left x rest later is)

pub among_right : {X : Type 0} (x : X) (first later : List X) → Among x later → Among x (first ++ later)
among_right x [] later is = is
among_right x (y ∷ rest) later is = inr (among_right x rest later is)

pub contained : {X : Type 0} (x : X) (xs : List X) → Among x xs → Contains xs x
contained x [] is = absurd is
contained x (y ∷ rest) (inl same) = (0, omega arith, sym same)
contained x (y ∷ rest) (inr is) =
    let found : Contains rest x = contained x rest is in
    (suc found.0, omega (arith, found.1), found.2)

pub same_Arm : (one fuse : Fuse) → Arm one ≡ Arm fuse → one ≡ fuse
same_Arm one fuse same = cc

-- ---- what an event arms

abbrev AreNoSets : ℕ → List PortEvent → Type 0
AreNoSets pid calls = AreSetsOf (λ fuse. ⊥) pid calls

-- the one call of a set arms its fuse, and nothing else sets a timer
abbrev pub IsArmed : ℕ → Event → List PortEvent → List Effect → Type 0
IsArmed pid (event.Set key due) calls done =
    (arm : ℕ) × (calls ≡ Set key due arm ∷ [])
    × (done ≡ Arm (record { pid = pid; key = key; arm = arm; due = due }) ∷ [])
IsArmed pid happened calls done = AreNoSets pid calls

fails_sets : (pid : ℕ) {p : Behaviour} {state : StateMeaning} {here : Environment} {calls : List PortEvent}
    {why : Failure} → FailsIn p state here calls why → AreNoSets pid calls
fails_sets pid (of_condition why first) = tt
fails_sets pid of_take = tt
fails_sets pid (of_event classes got selects given) = tt
fails_sets pid (of_continuous classes why selects tries) = tt
fails_sets pid (of_trying classes selects wants) = tt

module _ (d : Definition) (who : Identity) (q : PortState) where
  are_as : (calls list : List PortEvent) → calls ≡ list → AreNoSets who.pid list → AreNoSets who.pid calls
  are_as calls list same none = subst (λ (list : List PortEvent). AreNoSets who.pid list) (sym same) none

  pub happens_sets : (place : ControlPoint) (s : Store) (e : Event) (calls : List PortEvent) (done : List Effect) (to : ControlPoint)
      (t : Store) → Happens d who q place s e calls done to t → IsArmed who.pid e calls done
  happens_sets AtStart s (event.Start at) calls done to t happens = are_as calls [] happens.0 tt
  happens_sets AtStart s (event.Cut state) calls done to t happens = are_as calls [] happens.0 tt
  happens_sets AtStart s (event.Failed why) calls done to t happens = are_as calls (Stop ∷ []) happens.0 tt
  happens_sets AtStart s happened calls done to t happens = absurd happens
  happens_sets (In n) s (event.Consumed at got) calls done to t happens =
      are_as calls (Take happens.1.classes (taken.Consumed got) ∷ []) happens.1.calls_are tt
  happens_sets (In n) s (event.Prior at got) calls done to t happens =
      are_as calls (Take happens.1.classes (taken.Consumed got) ∷ []) happens.1.calls_are tt
  happens_sets (In n) s (event.Discarded at got) calls done to t happens =
      are_as calls (Take happens.1.classes (taken.Discarded got) ∷ []) happens.1.calls_are tt
  happens_sets (In n) s (event.Provided at number) calls done to t happens =
      are_as calls (Take happens.1.classes taken.Nothing ∷ []) happens.1.calls_are tt
  happens_sets (In n) s (event.FailedAt at why) calls done to t happens = fails_sets who.pid happens.1.fails
  happens_sets (In n) s (event.Rest state) calls done to t happens = are_as calls [] happens.0 tt
  happens_sets (In n) s (event.Cut state) calls done to t happens = are_as calls [] happens.0 tt
  happens_sets (In n) s (event.Failed why) calls done to t happens = are_as calls (Stop ∷ []) happens.0 tt
  happens_sets (In n) s happened calls done to t happens = absurd happens
  happens_sets (Receiving origin variables values rest) s (event.Failed why) calls done to t happens =
      are_as calls (Stop ∷ []) happens.0 tt
  happens_sets (Receiving origin variables values rest) s happened calls done to t happens = absurd happens
  happens_sets (Doing origin (body.ending (body.to_state n))) s (event.NextState m) calls done to t happens =
      are_as calls [] happens.0 tt
  happens_sets (Doing origin (body.ending (body.to_state n))) s (event.Failed why) calls done to t happens =
      are_as calls (Stop ∷ []) happens.0 tt
  happens_sets (Doing origin (body.ending (body.to_state n))) s happened calls done to t happens = absurd happens
  happens_sets (Doing (Some n) (body.ending body.to_same)) s (event.NextState m) calls done to t happens =
      are_as calls [] happens.0 tt
  happens_sets (Doing (Some n) (body.ending body.to_same)) s (event.Failed why) calls done to t happens =
      are_as calls (Stop ∷ []) happens.0 tt
  happens_sets (Doing (Some n) (body.ending body.to_same)) s happened calls done to t happens = absurd happens
  happens_sets (Doing None (body.ending body.to_same)) s (event.Failed why) calls done to t happens =
      are_as calls (Stop ∷ []) happens.0 tt
  happens_sets (Doing None (body.ending body.to_same)) s happened calls done to t happens = absurd happens
  happens_sets (Doing origin (body.ending body.stop)) s event.Stop calls done to t happens =
      are_as calls (Stop ∷ []) happens.0 tt
  happens_sets (Doing origin (body.ending body.stop)) s (event.Failed why) calls done to t happens =
      are_as calls (Stop ∷ []) happens.0 tt
  happens_sets (Doing origin (body.ending body.stop)) s happened calls done to t happens = absurd happens
  happens_sets (Doing origin (body.ending (body.join label))) s (event.Failed why) calls done to t happens =
      are_as calls (Stop ∷ []) happens.0 tt
  happens_sets (Doing origin (body.ending (body.join label))) s happened calls done to t happens = absurd happens
  happens_sets (Doing origin body.nothing) s (event.Failed why) calls done to t happens =
      are_as calls (Stop ∷ []) happens.0 tt
  happens_sets (Doing origin body.nothing) s happened calls done to t happens = absurd happens
  happens_sets (Doing origin (body.action first rest)) s (event.Failed why) calls done to t happens =
      are_as calls (Stop ∷ []) happens.0 tt
  happens_sets (Doing origin (body.action first rest)) s happened calls done to t happens = absurd happens
  happens_sets (Doing origin (body.decision question parts rest)) s (event.Failed why) calls done to t happens =
      are_as calls (Stop ∷ []) happens.0 tt
  happens_sets (Doing origin (body.decision question parts rest)) s happened calls done to t happens = absurd happens
  happens_sets (Doing origin (body.label number rest)) s (event.Failed why) calls done to t happens =
      are_as calls (Stop ∷ []) happens.0 tt
  happens_sets (Doing origin (body.label number rest)) s happened calls done to t happens = absurd happens
  happens_sets (Amid origin (body.task []) rest) s (event.Failed why) calls done to t happens =
      are_as calls (Stop ∷ []) happens.0 tt
  happens_sets (Amid origin (body.task []) rest) s happened calls done to t happens = absurd happens
  happens_sets (Amid origin (body.task (one ∷ more)) rest) s (event.Task variable value) calls done to t happens =
      are_as calls [] happens.0 tt
  happens_sets (Amid origin (body.task (one ∷ more)) rest) s (event.Failed why) calls done to t happens =
      are_as calls (Stop ∷ []) happens.0 tt
  happens_sets (Amid origin (body.task (one ∷ more)) rest) s happened calls done to t happens = absurd happens
  happens_sets (Amid origin (body.output [] whom) rest) s (event.Failed why) calls done to t happens =
      are_as calls (Stop ∷ []) happens.0 tt
  happens_sets (Amid origin (body.output [] whom) rest) s happened calls done to t happens = absurd happens
  happens_sets (Amid origin (body.output (one ∷ more) whom) rest) s (event.Output signal named values target) calls
      done to t happens =
      are_as calls [] happens.0 tt
  happens_sets (Amid origin (body.output (one ∷ more) whom) rest) s (event.Failed why) calls done to t happens =
      are_as calls (Stop ∷ []) happens.0 tt
  happens_sets (Amid origin (body.output (one ∷ more) whom) rest) s happened calls done to t happens = absurd happens
  happens_sets (Amid origin (body.set []) rest) s (event.Failed why) calls done to t happens =
      are_as calls (Stop ∷ []) happens.0 tt
  happens_sets (Amid origin (body.set []) rest) s happened calls done to t happens = absurd happens
  happens_sets (Amid origin (body.set (one ∷ more)) rest) s (event.Set key due) calls done to t happens =
      (q.sets + 1, happens.2.calls_are, happens.2.effects_are)
  happens_sets (Amid origin (body.set (one ∷ more)) rest) s (event.Failed why) calls done to t happens =
      are_as calls (Stop ∷ []) happens.0 tt
  happens_sets (Amid origin (body.set (one ∷ more)) rest) s happened calls done to t happens = absurd happens
  happens_sets (Amid origin (body.reset []) rest) s (event.Failed why) calls done to t happens =
      are_as calls (Stop ∷ []) happens.0 tt
  happens_sets (Amid origin (body.reset []) rest) s happened calls done to t happens = absurd happens
  happens_sets (Amid origin (body.reset (one ∷ more)) rest) s (event.Reset key) calls done to t happens =
      are_as calls (Reset key ∷ []) happens.0 tt
  happens_sets (Amid origin (body.reset (one ∷ more)) rest) s (event.Failed why) calls done to t happens =
      are_as calls (Stop ∷ []) happens.0 tt
  happens_sets (Amid origin (body.reset (one ∷ more)) rest) s happened calls done to t happens = absurd happens
  happens_sets (Amid origin (body.create process terms) rest) s (event.Create named number) calls done to t happens =
      are_as calls [] happens.0 tt
  happens_sets (Amid origin (body.create process terms) rest) s (event.Failed why) calls done to t happens =
      are_as calls (Stop ∷ []) happens.0 tt
  happens_sets (Amid origin (body.create process terms) rest) s happened calls done to t happens = absurd happens
  happens_sets Ended s (event.Failed why) calls done to t happens = are_as calls (Stop ∷ []) happens.0 tt
  happens_sets Ended s happened calls done to t happens = absurd happens
  happens_sets Closed s (event.Failed why) calls done to t happens = are_as calls (Stop ∷ []) happens.0 tt
  happens_sets Closed s happened calls done to t happens = absurd happens

-- ---- behind a step

no_sets : (A : Fuse → Type 0) (pid : ℕ) (calls : List PortEvent) → AreNoSets pid calls → AreSetsOf A pid calls
no_sets A pid calls none = sets_more (λ fuse. ⊥) A pid (λ fuse wrong. absurd wrong) calls none

-- a timer ran before, or a set has armed its fuse
abbrev pub IsArmedOr : (Fuse → Type 0) → List Effect → Fuse → Type 0
IsArmedOr A done fuse = A fuse ⊎ Among (Arm fuse) done

armed_sets : (A : Fuse → Type 0) (pid : ℕ) (e : Event) (calls : List PortEvent) (done : List Effect)
    → IsArmed pid e calls done → AreSetsOf (IsArmedOr A done) pid calls
armed_sets A pid (event.Set key due) calls done armed =
    let fuse : Fuse = record { pid = pid; key = key; arm = armed.0; due = due } in
    let is : IsArmedOr A done fuse =
    subst (λ (done : List Effect). IsArmedOr A done fuse) (sym armed.2) (inr (inl refl)) in
    subst (λ (calls : List PortEvent). AreSetsOf (IsArmedOr A done) pid calls) (sym armed.1) (is, tt)
armed_sets A pid happened calls done none = no_sets (IsArmedOr A done) pid calls none

before_more : (A : Fuse → Type 0) (fuse : Fuse) (first later : List Effect) → IsArmedOr A first fuse
    → IsArmedOr A (first ++ later) fuse
before_more A fuse first later (inl is) = inl is
before_more A fuse first later (inr armed) = inr (among_left (Arm fuse) first later armed)

behind_more : (A : Fuse → Type 0) (fuse : Fuse) (first later : List Effect) → IsArmedOr A later fuse
    → IsArmedOr A (first ++ later) fuse
behind_more A fuse first later (inl is) = inl is
behind_more A fuse first later (inr armed) = inr (among_right (Arm fuse) first later armed)

module _ (d : Definition) (who : Identity) (from : ControlPoint) (s : Store) (q : PortState) (A : Fuse → Type 0)
    (are : AreFused A who.pid q.timers) where
  -- the timers that run behind a run of a process
  pub runs_fused : {deeds : List Deed} {history : List PortEvent} {to : ControlPoint} {t : Store} {r : PortState}
      → Runs d who from s q deeds history to t r → AreFused (IsArmedOr A (effects_of deeds)) who.pid r.timers
  runs_fused still = fused_more A (IsArmedOr A []) who.pid (λ fuse own is. inl is) q.timers are
  runs_fused (acts {deeds = deeds} {at = at} {mid = mid} {port = port} before deed to t r leads legal) =
      let one : List Effect = effects_of (deed ∷ []) in
      let now : List Effect = effects_of deeds ++ one in
      let first : AreFused (IsArmedOr A now) who.pid port.timers =
      fused_more (IsArmedOr A (effects_of deeds)) (IsArmedOr A now) who.pid
      (λ fuse own is. before_more A fuse (effects_of deeds) one is) port.timers (runs_fused before) in
      let own : AreSetsOf (IsArmedOr A deed.effects) who.pid deed.calls =
      armed_sets A who.pid deed.event deed.calls deed.effects
      (happens_sets d who port at mid deed.event deed.calls deed.effects to t leads) in
      let sets : AreSetsOf (IsArmedOr A now) who.pid deed.calls =
      sets_more (IsArmedOr A deed.effects) (IsArmedOr A now) who.pid
      (λ fuse is. behind_more A fuse (effects_of deeds) one (before_more A fuse deed.effects [] is)) deed.calls own in
      subst (λ (done : List Effect). AreFused (IsArmedOr A done) who.pid r.timers) (sym (effects_of-append deeds (deed ∷ [])))
      (fused_legal (IsArmedOr A now) who.pid deed.calls port r legal sets first)
  runs_fused (turns before to t turn) = runs_fused before
  runs_fused (hears {deeds = deeds} {port = port} before heard r outside step) =
      fused_step (IsArmedOr A (effects_of deeds)) who.pid port r heard step
      (heard_sets (IsArmedOr A (effects_of deeds)) who.pid heard outside) (runs_fused before)
  runs_fused (waits before classes quiet step) = runs_fused before
