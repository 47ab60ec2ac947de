-- What a piece of a transition does, wherever it stands.
use Rattle.std.specs.Prelude.{◌≡◌, Option}
use Rattle.port_model.specs.Ends.{OwnerState}
use Rattle.run_record.specs.declared.failure.Failure.{Failure}
use Rattle.run_semantics.specs.Behaves.{Behaves}
use Rattle.run_semantics.specs.Fails.{Fails}
use Rattle.run_semantics.specs.Goes.{AreInner, Goes, GoesWrong, MachineValue}
use Rattle.run_semantics.specs.ControlPoint.{Amid, Definition, Doing, ControlPoint}
use Rattle.run_semantics.specs.World.{WorldValue}
use Rattle.sdl_interp.specs.Machine.{value_of}
use Rattle.sdl_interp.specs.declared.transitions.running.Core.{Core}
use Rattle.sdl_system.specs.Body as body
use Rattle.sdl_system.specs.Body.{Action, Body}
use Rattle.sdl_system.specs.System.{SystemValue}
use Rattle.sdl_system.specs.declared.id.StateId.{StateId}
use Rattle.sdl_system.specs.declared.process.Process.{Process}

-- what is run is this process of this system
pub record IsOf (system : SystemValue) (process : Process) (d : Definition) : Type 0 where
  pub system_is : d.system ≡ system
  pub behaves : Behaves system process d.behaviour

-- ---- places

-- a place of a transition, by where the transition began and what stands behind
abbrev pub Site : Type 0
Site = Option StateId → Body → ControlPoint

-- before an action, in the midst of it, and behind it
abbrev pub before : Action → Site
before action origin rest = Doing origin (body.action action rest)

abbrev pub amid : Action → Site
amid action origin rest = Amid origin action rest

abbrev pub behind : Site
behind origin rest = Doing origin rest

-- ---- what is done there

-- from the one site to the other, whatever stands behind
abbrev pub Does : (Definition → Type 0) → Site → MachineValue → WorldValue → Site → MachineValue → WorldValue → Type 0
Does Is from m w to n v =
    (d : Definition) → Is d → (origin : Option StateId) (rest : Body)
    → Goes AreInner d (from origin rest) m w (to origin rest) n v

-- from the one site to where the transition fails
abbrev pub DoesWrong : (Definition → Type 0) → Site → MachineValue → WorldValue → MachineValue → WorldValue → Failure
    → Type 0
DoesWrong Is from m w n v why =
    (d : Definition) → Is d → (origin : Option StateId) (rest : Body) → GoesWrong d (from origin rest) m w n v why

-- the transition fails at the site
abbrev pub FailsAt : (Definition → Type 0) → Site → MachineValue → Failure → Type 0
FailsAt Is from m why =
    (d : Definition) → Is d → (origin : Option StateId) (rest : Body)
    → Fails d m.who m.owner.state (from origin rest) m.store why

-- ---- the same of a core, by what its port says of its owner

abbrev pub WorksTo : {I : Type 0} → (I → OwnerState) → Site → Core I → WorldValue → Site → Core I
    → WorldValue → Type 0
WorksTo owning from old w to new v =
    Does (IsOf old.system.now old.process.now) from (value_of old.machine (owning old.inbox)) w to
    (value_of new.machine (owning new.inbox)) v

abbrev pub WorksAmiss : {I : Type 0} → (I → OwnerState) → Site → Core I → WorldValue → Core I
    → WorldValue → Failure → Type 0
WorksAmiss owning from old w new v why =
    DoesWrong (IsOf old.system.now old.process.now) from (value_of old.machine (owning old.inbox)) w
    (value_of new.machine (owning new.inbox)) v why

abbrev pub FailsHere : {I : Type 0} → (I → OwnerState) → Site → Core I → Failure → Type 0
FailsHere owning from c why =
    FailsAt (IsOf c.system.now c.process.now) from (value_of c.machine (owning c.inbox)) why
