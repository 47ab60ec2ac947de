-- What is left of an instance once its record is closed (Z.101: agent).
use Rattle.std.specs.Prelude.{◌≡◌, ◌++◌, ℕ, Bool, true, IsTrue, List, Option, count_by}
use Rattle.std.specs.declared.alloc.Global.{Global}
use Rattle.crossbeam_queue.specs.SegTies.{SegId}
use Rattle.port_model.specs.Ends.{OwnerState}
use Rattle.port_model.specs.declared.values.value.Value.{Value}
use Rattle.port_model.specs.declared.course.course_log.CourseLog.{CourseLog}
use Rattle.run_record.specs.Event.{Event, is_beginning}
use Rattle.run_record.specs.Record.{RecordValue}
use Rattle.run_semantics.specs.ControlPoint.{Definition}
use Rattle.run_semantics.specs.Effect.{Effect}
use Rattle.sdl_interp.specs.Instance.{InstanceValue, IsAtRest, IsClosed, IsRunAs}
use Rattle.sdl_system.specs.System.{SystemValue}
use Rattle.settle_meaning.specs.Identities.{identity_of}
use Rattle.threads_instance.specs.Doings.{children_of}
use Rattle.threads_instance.specs.RunBy.{HasRunBy}
use Rattle.threads_instance.specs.ThreadInstance.{HasPut, IsSeated}
use Rattle.threads_instance.specs.declared.doings.Child.{Child}
use Rattle.threads_ports.specs.Peers.{PeersState}

-- The record of this instance is closed, and these are its port's owner and its senders as it was closed. It had its
-- seat in the run, all that it did is a run of its process, and in a whole run it was at rest. The run began with these
-- values of the parameters, and these children are those that it created.
pub record IsLeft (named : Option SystemValue) (ports : ℕ → SegId Global) (whole : Bool) (i : InstanceValue)
    (trace : RecordValue) (owner : OwnerState) (peers : PeersState) (given : List Value) (children : List Child)
    : Type 0 where
  pub closed : IsClosed true whole i trace
  pub effects : List Effect
  pub run : HasRunBy true i given effects
  pub created : children ≡ children_of effects
  pub rests : IsTrue whole → IsAtRest i
  pub seated : IsSeated named ports i
  pub owner_is : owner ≡ i.owner
  pub put : HasPut i peers

-- so it is of some instance
pub record IsLeftOfOne (named : Option SystemValue) (ports : ℕ → SegId Global) (whole : Bool) (trace : RecordValue)
    (owner : OwnerState) (peers : PeersState) (given : List Value) (children : List Child) : Type 0 where
  pub instance : InstanceValue
  pub left : IsLeft named ports whole instance trace owner peers given children

-- what a caller sees of it: whether the run is whole, the record, the owner of the port, the senders, the values with
-- which it began, its children, and what is kept of its course
pub record ClosingState : Type 0 where
  pub whole : Bool
  pub trace : RecordValue
  pub owner : OwnerState
  pub peers : PeersState
  pub given : List Value
  pub children : List Child
  pub course : CourseLog

-- some events more were recorded, or none, and no transition begins with one of them
pub record HasNoMore (old new : List Event) : Type 0 where
  pub more : List Event
  pub recorded : new ≡ old ++ more
  pub none_begins : count_by is_beginning more ≡ 0

-- The record is that of this instance. It has all that the instance did before, and no transition more.
pub record IsClosedNow (i : InstanceValue) (trace : RecordValue) : Type 0 where
  pub who : identity_of trace ≡ i.who
  pub events : (d : Definition) → IsRunAs i d → HasNoMore i.events trace.events
