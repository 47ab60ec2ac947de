-- Whether as many signals were put as were sent since a create.
use Rattle.std.specs.Prelude.{◌≡◌, ◌≤◌, ◌-◌, ℕ, List, All}
use Rattle.settle_checks.specs.declared.summing.creating.Birth.{Birth}

-- of so many signals in all that were sent to the number, as many were put as were sent after each of its births
abbrev pub IsEnoughSince : List Birth → ℕ → ℕ → ℕ → Type 0
IsEnoughSince births number all put =
    All (λ (birth : Birth). birth.number ≡ number → all - birth.sent ≤ put) births
