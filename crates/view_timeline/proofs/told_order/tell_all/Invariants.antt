use Rattle.std.proofs.Common.{List, take}
use Rattle.run_record.specs.Record.{RecordValue}
use Rattle.view_timeline.specs.Events.{Keeps, TellsIn, done_of}
use Rattle.view_timeline.specs.Moves.{IsLatest}
use Rattle.view_timeline.proofs.told_order.tell_all.Given as goal

abbrev pub invariant-loop-number : goal.invariant-loop-number
invariant-loop-number l = record {
  keeps : (records : List RecordValue) → Keeps records l.fn.events → Keeps records l.events;
  latest : (records : List RecordValue) → Keeps records l.fn.events
      → IsLatest l.fn.events.latest (done_of records l.fn.events)
      → IsLatest l.events.latest (done_of records l.events);
  told : (records : List RecordValue) → Keeps records l.fn.events
      → TellsIn (take l.number-index l.tellers) (done_of records l.fn.events) (done_of records l.events);
}
