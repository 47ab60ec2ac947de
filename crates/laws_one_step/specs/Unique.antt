-- What two steps of an instance have in common that begin alike (Z.101: agent, transition).
use Rattle.std.specs.Prelude.{◌≡◌, ℕ, Bool, true, false, List, [], All, Some}
use Rattle.port_model.specs.declared.selection.Class.{Class}
use Rattle.run_record.specs.Event as event
use Rattle.run_record.specs.Event.{Event}
use Rattle.run_record.specs.declared.failure.Failure.{Failure}
use Rattle.run_record.specs.declared.failure.Failure.TheVariants.{Memory}
use Rattle.run_semantics.specs.Effect.{Deed, effects_of, events_of}
use Rattle.run_semantics.specs.Behaves.{Behaves}
use Rattle.run_semantics.specs.Goes.{Goes, IsOneStep, MachineValue}
use Rattle.run_semantics.specs.Leads.{IsQuiet}
use Rattle.run_semantics.specs.ControlPoint.{AtStart, Definition, Ended, In, ControlPoint}
use Rattle.run_semantics.specs.World.{Living, WorldValue}
use Rattle.sdl_system.specs.declared.id.StateId.{StateId}
use Rattle.sdl_system.specs.declared.process.Process.{Process}

-- ---- what is left open

-- Whether a failure is for lack of memory. Of that alone no definition says when it comes: memory may be refused
-- wherever it is asked for.
abbrev pub is_want : Failure → Bool
is_want Memory = true
is_want why = false

-- the event is no failure for lack of memory
abbrev pub LacksNothing : Event → Type 0
LacksNothing (event.FailedAt at why) = is_want why ≡ false
LacksNothing (event.Failed why) = is_want why ≡ false
LacksNothing happened = Unit {0}

abbrev pub LackNothing : List Event → Type 0
LackNothing events = All LacksNothing events

-- ---- what is given

-- the clock and who lives are known
pub record IsKnown (w : WorldValue) : Type 0 where
  pub clock : ℕ
  pub clock_is : w.clock ≡ Some clock
  pub living : Living
  pub living_is : w.living ≡ Some living

-- a place between two steps
abbrev pub IsBetween : ControlPoint → Type 0
IsBetween AtStart = Unit {0}
IsBetween (In state) = Unit {0}
IsBetween Ended = Unit {0}
IsBetween place = ⊥

-- A step on what is in the port as it begins, in which no memory is wanting.
pub record IsPlainStep (d : Definition) (from : ControlPoint) (m : MachineValue) (w : WorldValue) (counts : Bool) (to : ControlPoint)
    (n : MachineValue) (v : WorldValue) : Type 0 where
  pub goes : Goes (IsOneStep counts) d from m w to n v
  pub undrawn : goes.news ≡ []
  pub lacks_nothing : LackNothing (events_of goes.deeds)
  pub starts : IsBetween from
  pub between : IsBetween to

-- ---- the laws

-- Both have the same events and acts, and end at the same place, with the same knowledge and port.
pub record AreAlike (deeds others : List Deed) (one other : Bool) (to up : ControlPoint) (n o : MachineValue) : Type 0 where
  pub events : events_of deeds ≡ events_of others
  pub effects : effects_of deeds ≡ effects_of others
  pub counts : one ≡ other
  pub place : to ≡ up
  pub store : n.store ≡ o.store
  pub port : n.owner.state ≡ o.owner.state

-- Two steps of one instance from one place are alike.
abbrev pub StepsAlike : Type 0
StepsAlike =
    (d : Definition) (process : Process) (from : ControlPoint) (m : MachineValue) (w : WorldValue) (one other : Bool)
    (to up : ControlPoint) (n o : MachineValue) (v u : WorldValue)
    → Behaves d.system process d.behaviour → IsKnown w → (first : IsPlainStep d from m w one to n v)
    → (second : IsPlainStep d from m w other up o u)
    → AreAlike first.goes.deeds second.goes.deeds one other to up n o

-- An instance that waits makes no step.
abbrev pub RestsForNow : Type 0
RestsForNow =
    (d : Definition) (process : Process) (state : StateId) (m : MachineValue) (w : WorldValue) (counts : Bool)
    (to : ControlPoint) (n : MachineValue) (v : WorldValue) (classes : List Class)
    → Behaves d.system process d.behaviour → IsKnown w → IsQuiet d m.who m.owner.state state m.store classes
    → IsPlainStep d (In state) m w counts to n v → ⊥
