-- The last event tells it.
use Rattle.run_record.specs.Told.{event_told}
use Rattle.settle_closing.proofs.Entries.{ends_by_last, ends_never}
use Rattle.settle_closing.proofs.ending.has_ended.Goals as goal

pub returns-in-Some : goal.returns-in-Some
returns-in-Some c =
    let last = c.in-Some.ensures in
    ends_by_last c.args.trace.now.events last.0 (event_told c.in-Some.told) c.is_end.result last.1
    c.is_end.ensures

pub returns-in-None : goal.returns-in-None
returns-in-None c = ends_never c.args.trace.now.events c.in-None.ensures
