use Rattle.std.proofs.Common.{◌<◌, get_or, ℕ, List}
use Rattle.settle_checks.specs.Account.{IsPutToOne}
use Rattle.settle_checks.specs.Outputs.{AreNamed}
use Rattle.settle_meaning.specs.Puts.{Heard}
use Rattle.settle_checks.specs.declared.summing.creating.Birth.{Birth}
use Rattle.settle_checks.proofs.account.putting.put_to_born.Given as goal

abbrev pub invariant-loop-birth : goal.invariant-loop-birth
invariant-loop-birth g l =
    (heard : List Heard) → AreNamed heard l.named → (k : ℕ) (d : Birth) → k < l.birth-index
    → IsPutToOne heard l.records l.from l.peers (get_or l.birth-items k d).number
