use Rattle.settle_run.specs.Parts.{AreColumnsOf, AreParts}
use Rattle.settle_run.proofs.parts.parts_of.Given as goal

abbrev pub invariant-loop-closing : goal.invariant-loop-closing
invariant-loop-closing g l =
    AreParts g.J.Run.system g.J.Run.ports l.whole l.fn.environment l.records.items l.gifts.items l.inboxes.items
    l.thens.items l.places.items
    × AreColumnsOf l.fn.environment l.yielded l.records.items l.logs.items l.inboxes.items l.places.items
