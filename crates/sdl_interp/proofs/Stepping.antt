-- What a step of an instance comes to, by what it was led to.
use Rattle.std.proofs.Common.{◌≢◌, inr, refl, true, false}
use Rattle.sdl_interp.specs.Instance.{Keeps, Steps, came_to, instance_of}
use Rattle.sdl_interp.specs.declared.instance.Stepped.TheVariants as stepped
use Rattle.run_semantics.specs.ControlPoint.{Definition}
use Rattle.run_semantics.specs.Goes.{Goes, IsOneStep}
use Rattle.run_semantics.specs.World.{WorldValue}
use Rattle.sdl_interp.specs.Machine.{place_of}
use Rattle.sdl_interp.specs.Running.{CoreValue, IsSameInstance}
use Rattle.sdl_interp.specs.Work.{IsOf}
use Rattle.sdl_interp.specs.declared.transitions.machine.Position.{Position}
use Rattle.sdl_interp.specs.declared.transitions.machine.Position.TheVariants.{BeforeStart, Ended, In}

-- who it is, and what it is of, stays
pub keeps_by : (at to : Position) (k l : CoreValue) → IsSameInstance k l → Keeps (instance_of at k) (instance_of to l)
keeps_by at to k l same = record {
  system = same.system;
  process = same.process;
  who = same.who;
  port = same.port;
  pid = same.pid;
}

module _ (at : Position) (k l : CoreValue) (w v : WorldValue) (lived : at ≢ Ended) where
  -- a transition: it lives on, or it has ended
  pub moves_by : (to : Position)
      → ((d : Definition) → IsOf k.system k.process d
      → Goes (IsOneStep true) d (place_of at) k.work w (place_of to) l.work v)
      → Steps (came_to to) (instance_of at k) w (instance_of to l) v
  moves_by BeforeStart goes = (goes, λ ended. cc)
  moves_by (In state) goes = (goes, λ ended. cc)
  moves_by Ended goes = inr (lived, refl, goes)

  -- a failure in a state
  pub fails_by : ((d : Definition) → IsOf k.system k.process d
      → Goes (IsOneStep false) d (place_of at) k.work w (place_of Ended) l.work v)
      → Steps (stepped.Ended false) (instance_of at k) w (instance_of Ended l) v
  fails_by goes = inr (lived, refl, goes)
