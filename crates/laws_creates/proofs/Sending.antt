-- What an output sends: its signal with its values, from its instance, to its target.
use Rattle.std.proofs.Common.{◌≡◌, subst, ℕ, List, [], ◌∷◌, ◌++◌, None, Some}
use Rattle.port_model.specs.History.{PortEvent}
use Rattle.port_model.specs.Port.{PortState}
use Rattle.port_model.specs.declared.values.item.SignalId.{SignalId}
use Rattle.port_model.specs.declared.values.pid.Pid.TheVariants.{Of}
use Rattle.port_model.specs.declared.values.value.Value.{Value}
use Rattle.serial_order.specs.Execution.{Steps}
use Rattle.serial_order.specs.RunState.{RunState}
use Rattle.run_record.specs.declared.evaluation.identity.Identity.{Identity}
use Rattle.run_record.specs.declared.evaluation.store.Store.{Store}
use Rattle.sdl_interp.specs.Instance.{InstanceValue}
use Rattle.run_record.specs.Event as event
use Rattle.run_record.specs.Event.{Event}
use Rattle.run_semantics.specs.Effect.{Effect, Deed, Send}
use Rattle.run_semantics.specs.Leads.{Happens}
use Rattle.run_semantics.specs.ControlPoint.{Amid, AtStart, Closed, Definition, Doing, Ended, In, ControlPoint, Receiving}
use Rattle.run_semantics.specs.Runs.{Runs, acts, hears, still, turns, waits}
use Rattle.sdl_interp.specs.Machine.{place_of}
use Rattle.sdl_system.specs.Behaviour.{Behaviour}
use Rattle.sdl_system.specs.Body as body
use Rattle.sdl_system.specs.declared.route.Dest.{Dest}
use Rattle.sdl_system.specs.declared.route.Target.{Target}

module _ (d : Definition) (who : Identity) (q : PortState) (signal : SignalId) (named : Dest) (values : List Value)
    (target : Target) where
  output_sends : (place : ControlPoint) (s : Store) (calls : List PortEvent) (done : List Effect) (to : ControlPoint) (t : Store)
      → Happens d who q place s (event.Output signal named values target) calls done to t
      → done ≡ Send target (record { name = signal; values = values; sender = Of who.pid }) ∷ []
  output_sends AtStart s calls done to t happens = absurd happens
  output_sends (In n) s calls done to t happens = absurd happens
  output_sends (Receiving origin variables values rest) s calls done to t happens = absurd happens
  output_sends (Doing origin (body.ending (body.to_state n))) s calls done to t happens = absurd happens
  output_sends (Doing (Some n) (body.ending body.to_same)) s calls done to t happens = absurd happens
  output_sends (Doing None (body.ending body.to_same)) s calls done to t happens = absurd happens
  output_sends (Doing origin (body.ending body.stop)) s calls done to t happens = absurd happens
  output_sends (Doing origin (body.ending (body.join label))) s calls done to t happens = absurd happens
  output_sends (Doing origin body.nothing) s calls done to t happens = absurd happens
  output_sends (Doing origin (body.action first rest)) s calls done to t happens = absurd happens
  output_sends (Doing origin (body.decision question parts rest)) s calls done to t happens = absurd happens
  output_sends (Doing origin (body.label number rest)) s calls done to t happens = absurd happens
  output_sends (Amid origin (body.task []) rest) s calls done to t happens = absurd happens
  output_sends (Amid origin (body.task (one ∷ more)) rest) s calls done to t happens = absurd happens
  output_sends (Amid origin (body.output [] whom) rest) s calls done to t happens = absurd happens
  output_sends (Amid origin (body.output (one ∷ more) whom) rest) s calls done to t happens = happens.3.effects_are
  output_sends (Amid origin (body.set []) rest) s calls done to t happens = absurd happens
  output_sends (Amid origin (body.set (one ∷ more)) rest) s calls done to t happens = absurd happens
  output_sends (Amid origin (body.reset []) rest) s calls done to t happens = absurd happens
  output_sends (Amid origin (body.reset (one ∷ more)) rest) s calls done to t happens = absurd happens
  output_sends (Amid origin (body.create process terms) rest) s calls done to t happens = absurd happens
  output_sends Ended s calls done to t happens = absurd happens
  output_sends Closed s calls done to t happens = absurd happens

-- a deed of the instance with this number, and several
abbrev pub IsSent : ℕ → Deed → Type 0
IsSent pid deed =
    (signal : SignalId) (named : Dest) (values : List Value) (target : Target)
    → deed.event ≡ event.Output signal named values target
    → deed.effects ≡ Send target (record { name = signal; values = values; sender = Of pid }) ∷ []

abbrev AreSent : ℕ → List Deed → Type 0
AreSent pid [] = Unit {0}
AreSent pid (deed ∷ rest) = IsSent pid deed × AreSent pid rest

AreSent-append : (pid : ℕ) (first later : List Deed) → AreSent pid first → AreSent pid later
    → AreSent pid (first ++ later)
AreSent-append pid [] later are more = more
AreSent-append pid (deed ∷ rest) later are more = (are.0, AreSent-append pid rest later are.1 more)

AreSent-at : (pid : ℕ) (before : List Deed) (deed : Deed) (after : List Deed) → AreSent pid (before ++ deed ∷ after)
    → IsSent pid deed
AreSent-at pid [] deed after are = are.0
AreSent-at pid (first ∷ rest) deed after are = AreSent-at pid rest deed after are.1

module _ (d : Definition) (who : Identity) (from : ControlPoint) (s : Store) (q : PortState) where
  runs_sent : {deeds : List Deed} {history : List PortEvent} {to : ControlPoint} {t : Store} {r : PortState}
      → Runs d who from s q deeds history to t r → AreSent who.pid deeds
  runs_sent still = tt
  runs_sent (acts {deeds = deeds} {at = at} {mid = mid} {port = port} before deed to t r leads legal) =
      let sent : IsSent who.pid deed = λ signal named values target is.
      output_sends d who port signal named values target at mid deed.calls deed.effects to t
      (subst (λ (e : Event). Happens d who port at mid e deed.calls deed.effects to t) is leads) in
      AreSent-append who.pid deeds (deed ∷ []) (runs_sent before) (sent, tt)
  runs_sent (turns before to t turn) = runs_sent before
  runs_sent (hears before heard r outside step) = runs_sent before
  runs_sent (waits before classes quiet step) = runs_sent before

-- a deed of a step
pub step_sent : (ps : List Behaviour) (g : RunState) (who : Identity) (before : List Deed) (deed : Deed)
    (after : List Deed) (h : RunState) → Steps ps g who (before ++ deed ∷ after) h → IsSent who.pid deed
step_sent ps g who before deed after h step =
    let old : InstanceValue = step.old in
    let d : Definition = record { system = old.system; behaviour = step.p } in
    let deeds : List Deed = before ++ deed ∷ after in
    AreSent-at who.pid before deed after
    (subst (λ (w : Identity). AreSent w.pid deeds) step.is_who
    (subst (λ (list : List Deed). AreSent old.who.pid list) step.deeds_are
    (runs_sent d old.who (place_of old.position) old.store old.owner.state step.goes.runs)))
