-- A text in which bytes are left out.
use Rattle.std.specs.Prelude.{◌≡◌, ◌≢◌, ◌⊎◌, ℕ, ◌-◌, ◌<◌, ◌==◌, ◌&&◌, ◌||◌, nat_le, nat_lt, not, Bool, true, List, length, slice_index, if◌then◌else◌}

-- a byte that takes the place of one that is left out: a blank, or one of `stop`
abbrev pub is_filler : ℕ → Bool
is_filler byte = (byte == 32) || (byte == 115) || (byte == 116) || (byte == 111) || (byte == 112)

-- A byte stays, or another takes its place. A line end stays, and no other comes.
abbrev pub StaysOr : ℕ → ℕ → Type 0
StaysOr old new = (new ≡ old) ⊎ ((old ≢ 10) × (is_filler new ≡ true))

-- A text in which something may be left out. What is left of it stays where it was.
pub record IsRestOf (text rest : List ℕ) : Type 0 where
  pub as_long : length rest ≡ length text
  pub each : (k : ℕ) → k < length text → StaysOr (slice_index text k) (slice_index rest k)

-- what takes the place of the bytes that are left out, by their numbers: `stop` and blanks, or only these
abbrev pub filler : Bool → ℕ → ℕ
filler stops number =
    if stops && (number == 0) then 115
    else if stops && (number == 1) then 116
    else if stops && (number == 2) then 111
    else if stops && (number == 3) then 112
    else 32

-- the byte of this number, which was that one
abbrev pub byte_at : ℕ → ℕ → Bool → ℕ → ℕ → ℕ
byte_at from to stops number old =
    if (nat_le from number && nat_lt number to) && not (old == 10) then filler stops (number - from) else old

-- The same text without the bytes from one up to another. Line ends stay.
pub record IsFilled (from to : ℕ) (stops : Bool) (text rest : List ℕ) : Type 0 where
  pub as_long : length rest ≡ length text
  pub each : (k : ℕ) → k < length text → slice_index rest k ≡ byte_at from to stops k (slice_index text k)
