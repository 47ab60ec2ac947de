use denote.Param.{copied, param}
use denote.Param.Send.{IsSend, IsSync, sendable}
use denote.Param.SendFields.{declared_send}
use Rattle.std.proofs.Crossing as owners
use Rattle.crossbeam_utils.proofs.sync.parker.RuledParker.TheSendSync as a-parker
use Rattle.sdl_timers.proofs.reader.Reader.TheSendSync as a-reader
use Rattle.threads_workers.proofs.Crossing.{shared}
use Rattle.threads_ports.proofs.numbers.NumberSeat.TheSendSync as a-seat
use Rattle.threads_workers.proofs.waking.Unparkers.TheSendSync as the-unparkers
use Rattle.threads_workers.proofs.pool.fn.join_all.scope.Goals as goal

pub spawn-requires-send-F : goal.spawn-requires-send-F
spawn-requires-send-F g c κs within =
    let sr : IsSend (copied 1 g.row.R) = search sendable in
    let yr : IsSync (copied 1 g.row.R) = search sendable in
    let yg : IsSync (param 2 g.row.G) = search sendable in
    search (
      declared_send,
      shared,
      a-reader.the_send,
      a-seat.the_send,
      the-unparkers.the_send,
      a-parker.the_send,
      sendable,
      owners.crosses,
    ) depth 30
