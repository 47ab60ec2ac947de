use Rattle.std.proofs.Common.{◌<◌, get_or, ℕ}
use Rattle.run_record.specs.Record.{RecordValue}
use Rattle.settle_checks.specs.Account.{AreTimed}
use Rattle.settle_checks.proofs.account.summing.all_timed.Given as goal

abbrev pub invariant-loop-k : goal.invariant-loop-k
invariant-loop-k l =
    (j : ℕ) (d : RecordValue) → j < l.k → AreTimed (get_or l.records j d)
