-- What the instances of a serial run are, between two steps.
use Rattle.std.specs.Prelude.{◌≡◌, ◌⊎◌, ◌+◌, ◌<◌, ◌≤◌, ℕ, false, true, List, [], ◌∷◌, All, Contains, Some, length, slice_get, slice_set}
use Rattle.serial_order.specs.RunState.{RunState, living_of, instance_at, is_ended}
use Rattle.serial_run.specs.declared.instances.Instances.{Instances}
use Rattle.sdl_interp.specs.Instance.{InstanceValue, IsAtRest}
use Rattle.serial_sweeps.specs.Sweeps.{Moment, until}
use Rattle.sdl_system.specs.System.{SystemValue}

-- the whole, of what the sweeps have at a moment and of the instances
abbrev pub state_of : Moment → Instances → RunState
state_of m a = record {
  system = a.system.now;
  clock = m.clock;
  until = until m;
  instances = a.instances.items;
  turn = m.turn;
  bound = m.bound;
  fuses = m.fuses;
  script = m.script;
}

-- the instances have the numbers of their places, from 1 on, and so have their ports
abbrev pub AreInPlace : ℕ → List InstanceValue → Type 0
AreInPlace place [] = Unit {0}
AreInPlace place (i ∷ rest) = (i.who.pid ≡ place + 1) × (i.owner.pid ≡ place + 1) × AreInPlace (place + 1) rest

-- an instance of a process of the system
pub record IsOfSystem (system : SystemValue) (i : InstanceValue) : Type 0 where
  pub system_is : i.system ≡ system
  pub process_is : slice_get system.processes i.who.process.0 ≡ Some i.process

-- who may have something to do is there, and all others rest
pub record AreMarked (ready : List ℕ) (instances : List InstanceValue) : Type 0 where
  pub there : (number : ℕ) → Contains ready number → (0 < number) × (number ≤ length instances)
  pub others : (number : ℕ) (i : InstanceValue) → instance_at instances number ≡ Some i
      → Contains ready number ⊎ IsAtRest i

-- the instances are those of a run in which these may have something to do
pub record IsSerial (ready : List ℕ) (a : Instances) : Type 0 where
  pub living : a.living ≡ living_of a.system.now a.instances.items
  pub places : AreInPlace 0 a.instances.items
  pub members : All (IsOfSystem a.system.now) a.instances.items
  pub marked : AreMarked ready a.instances.items

-- ---- who lives

-- The instance at this place has ended, with the step before which the living were counted.
pub record HasEnded (a : Instances) (place : ℕ) : Type 0 where
  pub before : InstanceValue
  pub now : InstanceValue
  pub is_there : slice_get a.instances.items place ≡ Some now
  pub lived : is_ended before.position ≡ false
  pub ended : is_ended now.position ≡ true
  pub who : now.who ≡ before.who
  pub inside : now.who.process.0 < length a.system.now.processes
  pub places : AreInPlace 0 a.instances.items
  pub living : a.living ≡ living_of a.system.now (slice_set a.instances.items place before)
