use Rattle.std.proofs.Common.{◌<◌, ◌+◌, get_or, ℕ, List, []}
use Rattle.run_record.specs.Record.{RecordValue}
use Rattle.settle_checks.specs.Account.{IsAllPut}
use Rattle.settle_checks.specs.Outputs.{AreNamed}
use Rattle.settle_meaning.specs.Puts.{Heard}
use Rattle.settle_checks.proofs.account.putting.all_put.Given as goal

abbrev pub invariant-loop-k : goal.invariant-loop-k
invariant-loop-k g l =
    (heard : List Heard) → AreNamed heard l.named → (k : ℕ) (d : RecordValue) → k < l.k
    → IsAllPut heard l.records (get_or l.records k d) (get_or l.places (k + 1) [])
