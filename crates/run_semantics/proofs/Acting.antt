-- What deeds do outside, by their events.
use Rattle.std.proofs.Common.{◌≡◌, ◌∙◌, ◌+◌, ap, refl, sym, ℕ, List, [], ◌∷◌, ◌++◌, None, Some}
use Rattle.port_model.specs.declared.inbox.entry.Fuse.{Fuse}
use Rattle.port_model.specs.History.{PortEvent}
use Rattle.port_model.specs.Port.{PortState}
use Rattle.port_model.specs.declared.values.item.Item.{Item}
use Rattle.port_model.specs.declared.values.pid.Pid.TheVariants.{Of}
use Rattle.port_model.specs.declared.values.value.Value.{Value}
use Rattle.run_record.specs.declared.evaluation.identity.Identity.{Identity}
use Rattle.run_record.specs.declared.evaluation.store.Store.{Store}
use Rattle.run_record.specs.Event as event
use Rattle.run_record.specs.Event.{Event}
use Rattle.run_semantics.specs.Effect.{Effect, Arm, Deed, Send}
use Rattle.run_semantics.specs.Leads.{Happens, created}
use Rattle.run_semantics.specs.ControlPoint.{Amid, AtStart, Closed, Definition, Doing, Ended, In, ControlPoint, Receiving}
use Rattle.run_semantics.specs.Runs.{Runs, acts, hears, still, turns, waits}
use Rattle.sdl_system.specs.Body as body

-- What an event does outside: an output sends a signal of the instance, a set arms a fuse, a create makes the instance
-- that it names, and the others do nothing.
abbrev pub AreActsOf : ℕ → Event → List Effect → Type 0
AreActsOf pid (event.Output signal named values target) done =
    (item : Item) × (done ≡ Send target item ∷ []) × (item.sender ≡ Of pid)
    × (item ≡ record { name = signal; values = values; sender = Of pid })
AreActsOf pid (event.Set key due) done = (fuse : Fuse) × (done ≡ Arm fuse ∷ [])
AreActsOf pid (event.Create process number) done = (values : List Value) × (done ≡ created process pid values number)
AreActsOf pid happened done = done ≡ []

module _ (d : Definition) (who : Identity) (q : PortState) where
  pub happens_effects : (place : ControlPoint) (s : Store) (e : Event) (calls : List PortEvent) (done : List Effect) (to : ControlPoint)
      (t : Store) → Happens d who q place s e calls done to t → AreActsOf who.pid e done
  happens_effects AtStart s (event.Start at) calls done to t happens = happens.1
  happens_effects AtStart s (event.Cut state) calls done to t happens = happens.1
  happens_effects AtStart s (event.Failed why) calls done to t happens = happens.1
  happens_effects AtStart s happened calls done to t happens = absurd happens
  happens_effects (In n) s (event.Consumed at got) calls done to t happens = happens.0
  happens_effects (In n) s (event.Prior at got) calls done to t happens = happens.0
  happens_effects (In n) s (event.Discarded at got) calls done to t happens = happens.0
  happens_effects (In n) s (event.Provided at number) calls done to t happens = happens.0
  happens_effects (In n) s (event.FailedAt at why) calls done to t happens = happens.0
  happens_effects (In n) s (event.Rest state) calls done to t happens = happens.1
  happens_effects (In n) s (event.Cut state) calls done to t happens = happens.1
  happens_effects (In n) s (event.Failed why) calls done to t happens = happens.1
  happens_effects (In n) s happened calls done to t happens = absurd happens
  happens_effects (Receiving origin variables values rest) s (event.Failed why) calls done to t happens = happens.1
  happens_effects (Receiving origin variables values rest) s happened calls done to t happens = absurd happens
  happens_effects (Doing origin (body.ending (body.to_state n))) s (event.NextState m) calls done to t happens = happens.1
  happens_effects (Doing origin (body.ending (body.to_state n))) s (event.Failed why) calls done to t happens = happens.1
  happens_effects (Doing origin (body.ending (body.to_state n))) s happened calls done to t happens = absurd happens
  happens_effects (Doing (Some n) (body.ending body.to_same)) s (event.NextState m) calls done to t happens = happens.1
  happens_effects (Doing (Some n) (body.ending body.to_same)) s (event.Failed why) calls done to t happens = happens.1
  happens_effects (Doing (Some n) (body.ending body.to_same)) s happened calls done to t happens = absurd happens
  happens_effects (Doing None (body.ending body.to_same)) s (event.Failed why) calls done to t happens = happens.1
  happens_effects (Doing None (body.ending body.to_same)) s happened calls done to t happens = absurd happens
  happens_effects (Doing origin (body.ending body.stop)) s event.Stop calls done to t happens = happens.1
  happens_effects (Doing origin (body.ending body.stop)) s (event.Failed why) calls done to t happens = happens.1
  happens_effects (Doing origin (body.ending body.stop)) s happened calls done to t happens = absurd happens
  happens_effects (Doing origin (body.ending (body.join label))) s (event.Failed why) calls done to t happens = happens.1
  happens_effects (Doing origin (body.ending (body.join label))) s happened calls done to t happens = absurd happens
  happens_effects (Doing origin body.nothing) s (event.Failed why) calls done to t happens = happens.1
  happens_effects (Doing origin body.nothing) s happened calls done to t happens = absurd happens
  happens_effects (Doing origin (body.action first rest)) s (event.Failed why) calls done to t happens = happens.1
  happens_effects (Doing origin (body.action first rest)) s happened calls done to t happens = absurd happens
  happens_effects (Doing origin (body.decision question parts rest)) s (event.Failed why) calls done to t happens =
      happens.1
  happens_effects (Doing origin (body.decision question parts rest)) s happened calls done to t happens = absurd happens
  happens_effects (Doing origin (body.label number rest)) s (event.Failed why) calls done to t happens = happens.1
  happens_effects (Doing origin (body.label number rest)) s happened calls done to t happens = absurd happens
  happens_effects (Amid origin (body.task []) rest) s (event.Failed why) calls done to t happens = happens.1
  happens_effects (Amid origin (body.task []) rest) s happened calls done to t happens = absurd happens
  happens_effects (Amid origin (body.task (one ∷ more)) rest) s (event.Task variable value) calls done to t happens =
      happens.1
  happens_effects (Amid origin (body.task (one ∷ more)) rest) s (event.Failed why) calls done to t happens = happens.1
  happens_effects (Amid origin (body.task (one ∷ more)) rest) s happened calls done to t happens = absurd happens
  happens_effects (Amid origin (body.output [] whom) rest) s (event.Failed why) calls done to t happens = happens.1
  happens_effects (Amid origin (body.output [] whom) rest) s happened calls done to t happens = absurd happens
  happens_effects (Amid origin (body.output (one ∷ more) whom) rest) s (event.Output signal named values target) calls done
      to t happens =
      (record { name = signal; values = values; sender = Of who.pid }, happens.3.effects_are, refl, refl)
  happens_effects (Amid origin (body.output (one ∷ more) whom) rest) s (event.Failed why) calls done to t happens =
      happens.1
  happens_effects (Amid origin (body.output (one ∷ more) whom) rest) s happened calls done to t happens = absurd happens
  happens_effects (Amid origin (body.set []) rest) s (event.Failed why) calls done to t happens = happens.1
  happens_effects (Amid origin (body.set []) rest) s happened calls done to t happens = absurd happens
  happens_effects (Amid origin (body.set (one ∷ more)) rest) s (event.Set key due) calls done to t happens =
      (record { pid = who.pid; key = key; arm = q.sets + 1; due = due }, happens.2.effects_are)
  happens_effects (Amid origin (body.set (one ∷ more)) rest) s (event.Failed why) calls done to t happens = happens.1
  happens_effects (Amid origin (body.set (one ∷ more)) rest) s happened calls done to t happens = absurd happens
  happens_effects (Amid origin (body.reset []) rest) s (event.Failed why) calls done to t happens = happens.1
  happens_effects (Amid origin (body.reset []) rest) s happened calls done to t happens = absurd happens
  happens_effects (Amid origin (body.reset (one ∷ more)) rest) s (event.Reset key) calls done to t happens = happens.1
  happens_effects (Amid origin (body.reset (one ∷ more)) rest) s (event.Failed why) calls done to t happens = happens.1
  happens_effects (Amid origin (body.reset (one ∷ more)) rest) s happened calls done to t happens = absurd happens
  happens_effects (Amid origin (body.create process terms) rest) s (event.Create named number) calls done to t happens = (
    happens.3.values,
    happens.3.effects_are ∙ ap (λ id. created id who.pid happens.3.values number) (sym happens.1),
  )
  happens_effects (Amid origin (body.create process terms) rest) s (event.Failed why) calls done to t happens = happens.1
  happens_effects (Amid origin (body.create process terms) rest) s happened calls done to t happens = absurd happens
  happens_effects Ended s (event.Failed why) calls done to t happens = happens.1
  happens_effects Ended s happened calls done to t happens = absurd happens
  happens_effects Closed s (event.Failed why) calls done to t happens = happens.1
  happens_effects Closed s happened calls done to t happens = absurd happens

-- so it is with each of several deeds
abbrev pub AreActs : ℕ → List Deed → Type 0
AreActs pid [] = Unit {0}
AreActs pid (deed ∷ rest) = AreActsOf pid deed.event deed.effects × AreActs pid rest

AreActs-append : (pid : ℕ) (first later : List Deed) → AreActs pid first → AreActs pid later
    → AreActs pid (first ++ later)
AreActs-append pid [] later are then = then
AreActs-append pid (deed ∷ rest) later are then = (are.0, AreActs-append pid rest later are.1 then)

module _ (d : Definition) (who : Identity) (from : ControlPoint) (s : Store) (q : PortState) where
  pub runs_effects : {deeds : List Deed} {history : List PortEvent} {to : ControlPoint} {t : Store} {r : PortState}
      → Runs d who from s q deeds history to t r → AreActs who.pid deeds
  runs_effects still = tt
  runs_effects (acts {deeds = deeds} {at = at} {mid = mid} {port = port} before deed to t r leads legal) =
      AreActs-append who.pid deeds (deed ∷ []) (runs_effects before)
      (happens_effects d who port at mid deed.event deed.calls deed.effects to t leads, tt)
  runs_effects (turns before to t turn) = runs_effects before
  runs_effects (hears before heard r outside step) = runs_effects before
  runs_effects (waits before classes quiet step) = runs_effects before
