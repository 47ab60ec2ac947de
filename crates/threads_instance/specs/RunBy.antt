-- A run that begins with known values of the parameters, and of which it is known what it has done (Z.101: agent; Z.102:
-- create).
use Rattle.std.specs.Prelude.{◌≡◌, Bool, List}
use Rattle.port_model.specs.Ends.{OwnerState}
use Rattle.port_model.specs.declared.values.value.Value.{Value}
use Rattle.run_record.specs.declared.evaluation.identity.Identity.{Identity}
use Rattle.run_record.specs.declared.evaluation.store.Store.{Store}
use Rattle.run_record.specs.Event.{Event}
use Rattle.run_semantics.specs.ControlPoint.{ControlPoint, Definition}
use Rattle.run_semantics.specs.Effect.{Effect, effects_of}
use Rattle.run_semantics.specs.Instance.{HasRun}
use Rattle.sdl_interp.specs.Machine.{place_of}
use Rattle.sdl_interp.specs.Instance.{InstanceValue, IsRunAs}

-- All that was done is a run, which begins with these values of the parameters, and has these effects, in their order.
pub record IsRunBy (shared : Bool) (d : Definition) (who : Identity) (events : List Event) (place : ControlPoint)
    (s : Store) (owner : OwnerState) (given : List Value) (effects : List Effect) : Type 0 where
  pub run : HasRun shared d who events place s owner
  pub begins : run.values ≡ given
  pub does : effects_of run.deeds ≡ effects

-- so it is of an instance, if its process means something
abbrev pub HasRunBy : Bool → InstanceValue → List Value → List Effect → Type 0
HasRunBy shared i given effects =
    (d : Definition) → IsRunAs i d
    → IsRunBy shared d i.who i.events (place_of i.position) i.store i.owner given effects
