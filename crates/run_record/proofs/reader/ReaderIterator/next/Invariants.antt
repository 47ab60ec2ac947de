use Rattle.std.proofs.Common.{◌≡◌, ◌≤◌, length}
use Rattle.run_record.specs.Packed.{counted, told}
use Rattle.run_record.proofs.reader.ReaderIterator.next.Given as goal

-- only times were passed over
abbrev pub invariant-loop-first : goal.invariant-loop-first
invariant-loop-first l =
    (told l.self-inside.time l.self-inside.entries.now l.self-inside.values.now ≡ l.fn.self)
    × (counted l.self-inside.entries.now ≤ length l.self-inside.values.now)

abbrev pub decreases-loop-first : goal.decreases-loop-first
decreases-loop-first l = length l.self-inside.entries.now
