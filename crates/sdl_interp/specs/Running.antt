-- An instance in the midst of a step, as the definitions see it.
use Rattle.std.specs.Prelude.{◌≡◌, ◌≢◌, ◌<◌, ◌≤◌, ◌-◌, ℕ, List, length, true}
use Rattle.port_model.specs.Calls.{after_stop}
use Rattle.port_model.specs.Ends.{OwnerState}
use Rattle.port_model.specs.declared.inbox.entry.Entry.{Entry}
use Rattle.run_record.specs.Knowledge.{KnowledgeValue}
use Rattle.run_record.specs.Event.{Event, values_of}
use Rattle.run_record.specs.Event as event
use Rattle.run_record.specs.declared.failure.Failure.{Failure}
use Rattle.run_semantics.specs.Goes.{MachineValue, with_event}
use Rattle.sdl_interp.specs.Machine.{IsPositionIn, value_of}
use Rattle.sdl_interp.specs.declared.transitions.machine.Position.{Position}
use Rattle.sdl_interp.specs.declared.transitions.machine.Position.TheVariants as position
use Rattle.sdl_interp.specs.declared.transitions.running.Core.{Core}
use Rattle.sdl_system.specs.System.{SystemValue}
use Rattle.sdl_system.specs.declared.process.Process.{Process}

-- The system and the process, what the instance works on, the entries that its port drew since its stop, and the room
-- of its record for events and for values.
pub record CoreValue : Type 0 where
  pub system : SystemValue
  pub process : Process
  pub work : MachineValue
  pub since : List Entry
  pub room : ℕ
  pub values_room : ℕ

-- what an expression is evaluated by
abbrev pub known_by : CoreValue → KnowledgeValue
known_by k = record { system = k.system; who = k.work.who; store = k.work.store; port = k.work.owner.state }

-- ---- what is done

-- once this event is recorded
abbrev pub recorded : Event → CoreValue → CoreValue
recorded happened k = record k {
  work = with_event k.work happened;
  room = k.room - 1;
  values_room = k.values_room - length (values_of happened);
}

-- once the port is stopped
abbrev pub stopped : CoreValue → CoreValue
stopped k = record k { work = record k.work { owner = after_stop k.work.owner } }

-- once the transition has failed
abbrev pub failed : Failure → CoreValue → CoreValue
failed why k = recorded (event.Failed why) (stopped k)

-- ---- what stays

-- Who an instance is, of which system and process it is, and which port it has, never change. Until it is closed
-- nothing is drawn after a stop.
pub record IsSameInstance (k l : CoreValue) : Type 0 where
  pub system : l.system ≡ k.system
  pub process : l.process ≡ k.process
  pub who : l.work.who ≡ k.work.who
  pub port : l.work.owner.port ≡ k.work.owner.port
  pub pid : l.work.owner.pid ≡ k.work.owner.pid
  pub since : l.since ≡ k.since

-- An instance that has not ended: its record has room for one event more, its port lives and has its number.
pub record IsGoing (k : CoreValue) : Type 0 where
  pub room : 0 < k.room
  pub alive : k.work.owner.state.alive ≡ true
  pub own : k.work.owner.pid ≡ k.work.who.pid

-- In the midst of an action it goes on, and nothing more is counted.
pub record IsAmid (k l : CoreValue) : Type 0 where
  pub same : IsSameInstance k l
  pub going : IsGoing l
  pub done : l.work.store.done ≡ k.work.store.done

-- an instance that has not ended is going on, and before the start there is room for that and for a failure
abbrev pub IsReady : Position → CoreValue → Type 0
IsReady position.BeforeStart k = IsGoing k × (2 ≤ k.room)
IsReady (position.In state) k = IsGoing k
IsReady position.Ended k = Unit {0}

-- where a transition has led: to a state of the process, or to the end
pub record IsReached (at : Position) (k : CoreValue) : Type 0 where
  pub ready : IsReady at k
  pub inside : IsPositionIn k.process at
  pub started : at ≢ position.BeforeStart

-- ---- the same of a core, by what its port says of its owner and of what was drawn since the stop

abbrev pub seen : {I : Type 0} → (I → OwnerState) → (I → List Entry) → Core I → CoreValue
seen owning since c = record {
  system = c.system.now;
  process = c.process.now;
  work = value_of c.machine (owning c.inbox);
  since = since c.inbox;
  room = c.machine.trace.room;
  values_room = c.machine.trace.values_room;
}

abbrev pub GoesOn : {I : Type 0} → (I → OwnerState) → (I → List Entry) → Core I → Type 0
GoesOn owning since c = IsGoing (seen owning since c)

abbrev pub StaysItself : {I : Type 0} → (I → OwnerState) → (I → List Entry) → Core I → Core I → Type 0
StaysItself owning since old new = IsSameInstance (seen owning since old) (seen owning since new)

abbrev pub StaysAmid : {I : Type 0} → (I → OwnerState) → (I → List Entry) → Core I → Core I → Type 0
StaysAmid owning since old new = IsAmid (seen owning since old) (seen owning since new)

abbrev pub Reaches : {I : Type 0} → (I → OwnerState) → (I → List Entry) → Position → Core I → Type 0
Reaches owning since at c = IsReached at (seen owning since c)

abbrev pub WorksSame : {I : Type 0} → (I → OwnerState) → Core I → Core I → Type 0
WorksSame owning old new = value_of new.machine (owning new.inbox) ≡ value_of old.machine (owning old.inbox)

abbrev pub ReadyAt : {I : Type 0} → (I → OwnerState) → (I → List Entry) → Position → Core I → Type 0
ReadyAt owning since at c = IsReady at (seen owning since c)
