-- A signal that is sent, once there is room to record it.
use Rattle.std.proofs.Common.{◌≡◌, ◌≤◌, ◌∷◌, ap, subst, sym, ℕ, List, Ok, Option}
use Rattle.port_model.specs.Ends.{OwnerState}
use Rattle.port_model.specs.declared.inbox.entry.Entry.{Entry}
use Rattle.port_model.specs.declared.values.pid.Pid.TheVariants.{Of}
use Rattle.port_model.specs.declared.values.value.Value.{Value}
use Rattle.run_record.specs.Environment.{environment}
use Rattle.run_record.specs.Event as event
use Rattle.run_record.specs.Event.{Event}
use Rattle.run_record.specs.Record.{with_room}
use Rattle.run_semantics.specs.ControlPoint.{Amid, Definition}
use Rattle.run_semantics.specs.Effect.{Send}
use Rattle.run_semantics.specs.Fails.{sent_by}
use Rattle.run_semantics.specs.Goes.{AreInner, Goes, MachineValue, with_event}
use Rattle.run_semantics.specs.World.{IsRoute, WorldValue, after_effect}
use Rattle.sdl_interp.proofs.Deeds.{goes_sent}
use Rattle.sdl_interp.proofs.Staying.{amid_on, amid_recorded, amid_roomier}
use Rattle.sdl_interp.specs.Machine.{value_of}
use Rattle.sdl_interp.specs.Output.{IsSent}
use Rattle.sdl_interp.specs.Running.{CoreValue, GoesOn, IsAmid, recorded, seen}
use Rattle.sdl_interp.specs.Work.{IsOf}
use Rattle.sdl_interp.specs.declared.transitions.machine.Machine.{Machine}
use Rattle.sdl_interp.specs.declared.transitions.running.Core.{Core}
use Rattle.sdl_system.specs.Body as body
use Rattle.sdl_system.specs.Body.{Body, Whither}
use Rattle.sdl_system.specs.System.{SystemValue}
use Rattle.sdl_system.specs.declared.id.StateId.{StateId}
use Rattle.sdl_system.specs.declared.route.Dest.{Dest}
use Rattle.sdl_system.specs.declared.route.Target.{Target}

-- `mid` is the machine with the room.
module _ {I : Type 0} (owning : I → OwnerState) (since : I → List Entry) (c : Core I) (mid : Machine)
    (room values_room : ℕ) (is : mid ≡ record c.machine { trace = with_room c.machine.trace room values_room })
    (named : Dest) (values : List Value) (target : Target) (w : WorldValue) (n : CoreValue) (v : WorldValue) where
  abbrev k : CoreValue
  k = seen owning since c

  pub goes_out : (d : Definition) → IsOf k.system k.process d → (origin : Option StateId) (rest : Body)
      (to : Option Whither) (one : body.Sending) (more : List body.Sending)
      → sent_by d.system (environment d.system k.work.who k.work.store k.work.owner.state) to one ≡ Ok (named, values)
      → IsSent one.signal named values (seen owning since (record c { machine = mid })) w n v target
      → Goes AreInner d (Amid origin (body.output (one ∷ more) to) rest) k.work w
      (Amid origin (body.output more to) rest) n.work v
  goes_out d of origin rest to one more found sent =
      let Sent : MachineValue → Type 0 = λ m.
      IsRoute k.system w one.signal m.who.process named target
      × (v ≡ after_effect w (Send target (record { name = one.signal; values = values; sender = Of m.who.pid })))
      × (n.work ≡ with_event m (event.Output one.signal named values target)) in
      let here : Sent k.work = subst Sent (ap (λ (x : Machine). value_of x (owning c.inbox)) is)
      (sent.route, sent.sent, ap (λ (x : CoreValue). x.work) sent.is_recorded) in
      let By : SystemValue → Type 0 = λ s. IsRoute s w one.signal k.work.who.process named target in
      goes_sent d origin rest to one more named values target k.work n.work w v found
      (subst By (sym of.system_is) here.0) here.1 here.2

  pub amid_sent : (happened : Event) → n ≡ recorded happened (seen owning since (record c { machine = mid }))
      → c.machine.trace.room ≤ mid.trace.room
      → 2 ≤ mid.trace.room → GoesOn owning since c → IsAmid k n
  amid_sent happened sent more two going =
      let amid : IsAmid k (seen owning since (record c { machine = mid })) =
      amid_roomier owning since c mid room values_room is more going in
      amid_on k (seen owning since (record c { machine = mid })) n amid
      (amid_recorded (seen owning since (record c { machine = mid })) n happened sent two amid.going)
