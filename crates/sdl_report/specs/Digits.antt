-- Numbers three digits at a time.
use Rattle.std.specs.Prelude.{ℕ, ◌/◌, ◌%◌, List, ◌++◌}
use Rattle.std.specs.Fmt.{decimal}

-- a number of up to three digits as three digits
abbrev pub three_digits : ℕ → List ℕ
three_digits number = decimal (number / 100) ++ decimal (number / 10 % 10) ++ decimal (number % 10)
