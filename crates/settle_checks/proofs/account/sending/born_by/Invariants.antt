use Rattle.std.proofs.Common.{◌≡◌, ◌≤◌, All, take}
use Rattle.settle_checks.specs.declared.summing.creating.Birth.{Birth}
use Rattle.settle_checks.proofs.account.sending.born_by.Given as goal

abbrev pub invariant-loop-birth : goal.invariant-loop-birth
invariant-loop-birth l =
    record {
      less : l.least ≤ l.born;
      all : All (λ (birth : Birth). birth.number ≡ l.number → l.least ≤ birth.at) (take l.birth-index l.births);
    }
