-- Lists of numbers by a number, which have 0 behind their end.
use Rattle.std.specs.Prelude.{ℕ, ◌+◌, ◌-◌, ◌^◌, List, ◌++◌, length, min, replicate, slice_index, slice_set}

-- so long that this place is in it
abbrev pub grown : List ℕ → ℕ → List ℕ
grown list place = list ++ replicate (place + 1 - length list) 0

-- with this value at a place
abbrev pub with_at : List ℕ → ℕ → ℕ → List ℕ
with_at list place value = slice_set (grown list place) place value

-- a count of 32 bits that goes on, unless it is the last
abbrev pub counted : ℕ → ℕ
counted count = min (count + 1) (2 ^ 32 - 1)

-- with one more at a place, or one less
abbrev pub raised : List ℕ → ℕ → List ℕ
raised list place = with_at list place (counted (slice_index list place))

abbrev pub lowered : List ℕ → ℕ → List ℕ
lowered list place = slice_set list place (slice_index list place - 1)
