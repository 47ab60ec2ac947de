use Rattle.std.proofs.Common.{◌<◌, get_or, ℕ}
use Rattle.run_record.specs.Record.{RecordValue}
use Rattle.settle_run.specs.Gifts.{IsGivenOne, children_at, given_at, given_by}
use Rattle.settle_run.proofs.gifts.all_given.Given as goal

-- It is so of the records so far.
abbrev pub invariant-loop-k : goal.invariant-loop-k
invariant-loop-k l =
    (k : ℕ) (d : RecordValue) → k < l.k
    → IsGivenOne (given_by l.places.items l.gifts) (get_or l.records k d) (given_at l.gifts k) (children_at l.gifts k)
