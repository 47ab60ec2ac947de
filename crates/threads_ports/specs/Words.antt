-- How a set of numbers below 1,024 is kept: a bit for each, in 16 words of 64.
use Rattle.std.specs.Prelude.{◌==◌, ◌/◌, ◌%◌, ℕ, Bool, List, filter, slice_index}
use Rattle.std.specs.Int.{bit_at}
use Rattle.std.specs.List.{range_with_len}

-- whether a number's bit is set
abbrev pub is_set : List ℕ → ℕ → Bool
is_set words number = bit_at (slice_index words (number / 64)) (number % 64) == 1

-- the numbers below `most` whose bits are set, ascending
unfoldable pub members_below : ℕ → List ℕ → List ℕ
members_below most words = filter (is_set words) (range_with_len 0 most)

abbrev pub members : List ℕ → List ℕ
members words = members_below 1024 words
