-- The numbers of those that step (Z.101: system).
use Rattle.std.specs.Prelude.{ℕ, ◌≤◌}

-- there is a slot of this number
abbrev pub IsNumber : ℕ → Type 0
IsNumber number = (1 ≤ number) × (number ≤ 1000)
