use Rattle.std.proofs.Common.{◌≡◌, ◌≤◌, ◌-◌, All, take}
use Rattle.settle_checks.specs.declared.summing.creating.Birth.{Birth}
use Rattle.settle_checks.proofs.summing.enough.are_enough_since.Given as goal

abbrev pub invariant-loop-birth : goal.invariant-loop-birth
invariant-loop-birth l =
    All (λ (birth : Birth). birth.number ≡ l.number → l.all - birth.sent ≤ l.put) (take l.birth-index l.births)
