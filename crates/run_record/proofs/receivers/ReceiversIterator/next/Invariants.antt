use Rattle.std.proofs.Common.{◌≡◌, length}
use Rattle.run_record.specs.Packed.{receivers_in}
use Rattle.run_record.proofs.receivers.ReceiversIterator.next.Given as goal

-- only entries were passed over that reach nobody
abbrev pub invariant-loop-first : goal.invariant-loop-first
invariant-loop-first l = receivers_in l.self-inside.entries.now ≡ l.fn.self

abbrev pub decreases-loop-first : goal.decreases-loop-first
decreases-loop-first l = length l.self-inside.entries.now
