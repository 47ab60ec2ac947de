use Rattle.std.proofs.Common.{◌<◌, ℕ, List, None}
use Rattle.run_record.specs.Record.{RecordValue}
use Rattle.view_timeline.specs.Events.{Closes, IsDone, Keeps, done_of}
use Rattle.view_timeline.specs.Moves.{IsUpTo}
use Rattle.view_timeline.proofs.told_order.close_all.Given as goal

abbrev pub invariant-loop-place : goal.invariant-loop-place
invariant-loop-place l = record {
  keeps : (records : List RecordValue) → Keeps records l.fn.events → Keeps records l.events;
  up_to : (records : List RecordValue) → Keeps records l.fn.events
      → IsUpTo None (done_of records l.fn.events) → IsUpTo None (done_of records l.events);
  closes : (records : List RecordValue) → Keeps records l.fn.events
      → Closes (done_of records l.fn.events) (done_of records l.events);
  closed : (place : ℕ) → place < l.place → IsDone l.events place;
}
