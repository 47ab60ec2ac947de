-- An instance with its senders, and what these have put (Z.101: agent; Z.102: output).
use Rattle.std.specs.Prelude.{◌≡◌, ℕ, List, [], Option, Some, if◌then◌else◌, slice_get}
use Rattle.std.specs.declared.alloc.Global.{Global}
use Rattle.crossbeam_queue.specs.SegTies.{SegId}
use Rattle.port_model.specs.declared.values.item.Item.{Item}
use Rattle.port_model.specs.declared.values.value.Value.{Value}
use Rattle.port_model.specs.declared.course.course_log.CourseLog.{CourseLog}
use Rattle.sdl_interp.specs.Instance.{InstanceValue, IsRunAs}
use Rattle.sdl_system.specs.System.{SystemValue}
use Rattle.threads_instance.specs.Outbox.{sent_in}
use Rattle.threads_ports.specs.Peers.{ArePeersOf, PeersState}
use Rattle.threads_instance.specs.declared.doings.Child.{Child}
use Rattle.run_semantics.specs.ControlPoint.{Definition}
use Rattle.run_semantics.specs.Effect.{Effect}
use Rattle.run_semantics.specs.Sent.{sent_to}
use Rattle.run_semantics.specs.World.{has_port}

-- What a caller sees of a thread instance: the instance, its senders, and all signals that it sent to instances that have
-- a port, in their order, each after the number of its target; the values that its parameters got, all that it has done
-- outside of itself, and its children; and what is kept of its course.
pub record ThreadInstanceState : Type 0 where
  pub instance : InstanceValue
  pub peers : PeersState
  pub sent : List (ℕ × Item)
  pub given : List Value
  pub effects : List Effect
  pub children : List Child
  pub course : CourseLog

-- Where the process of the instance means something, just what its events say was sent to each instance that has a port.
abbrev pub HasSent : InstanceValue → List (ℕ × Item) → Type 0
HasSent i sent = (d : Definition) → IsRunAs i d
    → (number : ℕ) → sent_in sent number ≡ (if has_port number then sent_to i.who.pid i.events number else [])

-- So what was put into each port is the last of what its events send there, from the first put on all of it.
abbrev pub HasPut : InstanceValue → PeersState → Type 0
HasPut i peers = (d : Definition) → IsRunAs i d → ArePeersOf i.who.pid i.events peers

-- The instance has its seat in the run: it is of the system that is run, and its process is the one that its identity
-- names; its port is that of its number, and the owner has that number.
pub record IsSeated (system : Option SystemValue) (ports : ℕ → SegId Global) (i : InstanceValue) : Type 0 where
  pub system_is : system ≡ Some i.system
  pub process_is : slice_get i.system.processes i.who.process.0 ≡ Some i.process
  pub port : i.owner.port ≡ ports i.who.pid
  pub own : i.owner.pid ≡ i.who.pid
