use Rattle.std.proofs.Common.{◌<◌, get_or, ℕ}
use Rattle.run_record.specs.Record.{RecordValue}
use Rattle.settle_checks.proofs.CrossedLemmas.{IsTakenIn}
use Rattle.settle_checks.proofs.account.ordering.taken_crossings.Given as goal

abbrev pub invariant-loop-k : goal.invariant-loop-k
invariant-loop-k l =
    (j : ℕ) (d : RecordValue) → j < l.k → IsTakenIn (get_or l.records j d) l.taken.items
