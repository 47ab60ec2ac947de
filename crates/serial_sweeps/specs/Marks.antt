-- Sets of numbers as the bits of words: the bits of the first word are the numbers below 64, and so on.
use Rattle.std.specs.Prelude.{ℕ, zero, suc, ◌*◌, ◌/◌, ◌%◌, ◌==◌, Bool, List, [], ◌∷◌, length, slice_index_or, if◌then◌else◌}
use Rattle.std.specs.Int.{bit_at}

-- the bit of a number
abbrev pub is_marked : List ℕ → ℕ → Bool
is_marked words n = bit_at (slice_index_or words (n / 64) 0) (n % 64) == 1

-- the numbers below a bound that pass a test, downwards
abbrev pub numbers_below : (ℕ → Bool) → ℕ → List ℕ
numbers_below passes zero = []
numbers_below passes (suc n) = if passes n then n ∷ numbers_below passes n else numbers_below passes n

-- all numbers that are marked
abbrev pub numbers_in : List ℕ → List ℕ
numbers_in words = numbers_below (is_marked words) (64 * length words)
