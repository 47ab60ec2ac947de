-- A text without one of its lines.
use Rattle.std.specs.Prelude.{◌≡◌, ℕ, ◌+◌, ◌<◌, ◌==◌, ◌&&◌, not, List, length, slice_index, take, if◌then◌else◌}
use Rattle.std.specs.List.{count_by}
use Rattle.sdl_lex.specs.Place.{is_line_end}

-- the number of the line in which this byte is, from 1
abbrev pub line_at : List ℕ → ℕ → ℕ
line_at text at = count_by is_line_end (take at text) + 1

-- how many lines end before or with this byte, by how many end before it
abbrev pub ended_after : ℕ → ℕ → ℕ
ended_after ended old = if old == 10 then ended + 1 else ended

-- a byte in this line; the line is blank, except its end
abbrev pub byte_in_line : ℕ → ℕ → ℕ → ℕ
byte_in_line number line old = if (line == number) && not (old == 10) then 32 else old

-- the byte of this number in a text, which was that one
abbrev pub byte_of_line : ℕ → List ℕ → ℕ → ℕ → ℕ
byte_of_line number text at old = byte_in_line number (line_at text at) old

-- The same text without the line of this number. Line ends stay.
pub record IsWithoutLine (number : ℕ) (text rest : List ℕ) : Type 0 where
  pub as_long : length rest ≡ length text
  pub each : (k : ℕ) → k < length text → slice_index rest k ≡ byte_of_line number text k (slice_index text k)
