-- What it means that a signal is sent.
use Rattle.std.specs.Prelude.{◌≡◌, List}
use Rattle.port_model.specs.Ends.{OwnerState}
use Rattle.port_model.specs.declared.inbox.entry.Entry.{Entry}
use Rattle.port_model.specs.declared.values.item.SignalId.{SignalId}
use Rattle.port_model.specs.declared.values.pid.Pid.TheVariants.{Of}
use Rattle.port_model.specs.declared.values.value.Value.{Value}
use Rattle.run_record.specs.Event as event
use Rattle.run_semantics.specs.Effect.{Send}
use Rattle.run_semantics.specs.World.{IsRoute, WorldValue, after_effect}
use Rattle.sdl_interp.specs.Running.{CoreValue, recorded, seen}
use Rattle.sdl_interp.specs.declared.transitions.running.Core.{Core}
use Rattle.sdl_system.specs.declared.route.Dest.{Dest}
use Rattle.sdl_system.specs.declared.route.Target.{Target}

-- The signal is sent with these values to the target that it reaches, and that is recorded.
pub record IsSent (signal : SignalId) (named : Dest) (values : List Value) (k : CoreValue) (w : WorldValue)
    (l : CoreValue) (v : WorldValue) (target : Target) : Type 0 where
  pub route : IsRoute k.system w signal k.work.who.process named target
  pub sent : v ≡ after_effect w (Send target (record { name = signal; values = values; sender = Of k.work.who.pid }))
  pub is_recorded : l ≡ recorded (event.Output signal named values target) k

abbrev pub Sends : {I : Type 0} → (I → OwnerState) → (I → List Entry) → SignalId → Dest → List Value → Core I
    → WorldValue → Core I → WorldValue → Target → Type 0
Sends owning since signal named values old w new v target =
    IsSent signal named values (seen owning since old) w (seen owning since new) v target
