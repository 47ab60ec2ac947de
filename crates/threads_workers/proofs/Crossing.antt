-- What crosses threads in a run: an instance moves, and several threads may read what the run lends at once.
use denote.RattleType.{RattleType}
use denote.Ref.{NamedLft}
use denote.Param.Send.{IsSend, IsSync, sendable}
use denote.Param.SendFields.{declared_send, declared_sync}
use Rattle.std.specs.declared.clone.Clone as clone
use Rattle.std.specs.declared.sync.Wait as wait
use Rattle.std.proofs.Crossing as owners
use Rattle.input_port.proofs.held.Held.TheSendSync as held
use Rattle.port_model.specs.declared.inbox.calls.Inbox as inbox
use Rattle.port_model.proofs.values.values.Values.TheSendSync as some-values
use Rattle.port_model.proofs.course.course_log.CourseLog.TheSendSync as a-course-log
use Rattle.sdl_interp.proofs.transitions.machine.Machine.TheSendSync as a-machine
use Rattle.sdl_interp.proofs.transitions.machine.Position.TheSendSync as a-position
use Rattle.sdl_interp.specs.contracts.transitions.running.Core as Core
use Rattle.sdl_interp.specs.contracts.instance.Instance as Instance
use Rattle.sdl_interp.specs.contracts.instance.Instance.TheInside as InsideInstance
use Rattle.threads_instance.proofs.doings.Doings.TheSendSync as some-doings
use Rattle.threads_instance.proofs.outbox.Outbox.TheSendSync as an-outbox
use Rattle.threads_instance.specs.contracts.thread_instance.ThreadInstance as ThreadInstance
use Rattle.threads_instance.specs.contracts.thread_instance.ThreadInstance.TheInside as InsideThread
use Rattle.threads_instance.proofs.queue.slots.Slots.TheSendSync as some-slots
use Rattle.threads_ports.specs.declared.senders.run.Run as run
use Rattle.threads_shared.proofs.common.Common.TheSendSync as a-common
use Rattle.threads_shared.proofs.tables.Tables.TheSendSync as some-tables
use Rattle.threads_shared.specs.contracts.shared.Shared as Shared
use Rattle.sdl_system.proofs.Crossing.{process, system}

module _ (κ : NamedLft) (P : RattleType) (g : inbox.Ghosts P.Denot) where
  core : IsSend P → IsSend (Core.the_row κ P)
  core s = declared_send (Core.the_type κ P)
      (search (system, sendable), (search (process, sendable), (a-machine.the_send, (search sendable, tt))))

  within_instance : IsSend P → IsSend (InsideInstance.the_row κ P g)
  within_instance s = declared_send (InsideInstance.the_type κ P g) (core s, (a-position.the_send, tt))

  instance : IsSend P → IsSend (Instance.the_row κ P g)
  instance s = let i = within_instance s in search sendable depth 20

  module _ (J : RattleType) (j : run.Ghosts J.Denot) where
    within_thread : IsSend P → IsSend (InsideThread.the_row κ J P j g)
    within_thread s = declared_send (InsideThread.the_type κ J P j g) (
      search (system, sendable),
      (
        search (instance, sendable),
        (
          search (an-outbox.the_send, sendable),
          (
            search (some-values.the_send, sendable),
            (search (some-doings.the_send, sendable), (search (a-course-log.the_send, sendable), tt)),
          ),
        ),
      ),
    )

    thread_instance : IsSend P → IsSend (ThreadInstance.the_row κ J P j g)
    thread_instance s = let i = within_thread s in search sendable depth 20

-- what a run lends to its threads: several of them may read it at once
module _ (l s p : NamedLft) (J R : RattleType) (j : run.Ghosts J.Denot) (w : wait.Ghosts R.Denot)
    (c : clone.Ghosts R.Denot) where
  pub shared : IsSend R → IsSync R → IsSync (Shared.the_row l s p J R j w c)
  shared sr yr = declared_sync (Shared.the_type l s p J R j w c) (
    search (sendable, owners.crosses) depth 20,
    (
      search sendable,
      (
        search (system, sendable),
        (
          search (a-common.the_sync, sendable),
          (
            search (some-tables.the_sync, sendable),
            (
              search (some-slots.the_sync, thread_instance, held.the_send, sendable, owners.crosses) depth 20,
              (search sendable, tt),
            ),
          ),
        ),
      ),
    ),
  )
