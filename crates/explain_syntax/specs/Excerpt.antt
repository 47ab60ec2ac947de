-- A line of a text, and a place in it.
use Rattle.std.specs.Prelude.{◌≡◌, ◌≢◌, ℕ, ◌+◌, ◌-◌, ◌<◌, ◌≤◌, List, length, slice_index, slice_range, take}
use Rattle.std.specs.List.{prefix_len}
use Rattle.sdl_lex.specs.Byte.{is_word_byte}
use Rattle.sdl_lex.specs.Place.{place_after}
use Rattle.sdl_lex.specs.declared.place.Place.{Place}
use Rattle.explain_syntax.specs.declared.lines.excerpt.Excerpt.{Excerpt}

-- ---- places

-- the byte at this offset is at the place; at the text's length it is the place just past the text
abbrev pub IsAt : List ℕ → Place → ℕ → Type 0
IsAt text place offset = (offset ≤ length text) × (place_after (take offset text) ≡ place)

-- no byte of the text is at the place
abbrev pub IsNowhere : List ℕ → Place → Type 0
IsNowhere text place = (offset : ℕ) → offset ≤ length text → place_after (take offset text) ≢ place

-- ---- lines

-- the bytes from one offset up to another are a line without its end: no LF is among them, and one is before and one
-- after them, if anything is
pub record IsLine (text : List ℕ) (start end : ℕ) : Type 0 where
  pub ordered : start ≤ end
  pub within : end ≤ length text
  pub one : (k : ℕ) → start ≤ k → k < end → slice_index text k ≢ 10
  pub begins : 0 < start → slice_index text (start - 1) ≡ 10
  pub ends : end < length text → slice_index text end ≡ 10

-- so many bytes of these belong together: all of a word or a number, or one or two of what is none
pub record IsWidth (bytes : List ℕ) (width : ℕ) : Type 0 where
  pub word : 0 < prefix_len is_word_byte bytes → width ≡ prefix_len is_word_byte bytes
  pub other : prefix_len is_word_byte bytes ≡ 0 → (1 ≤ width) × (width ≤ 2)

-- The excerpt is the line of the text in which the place lies, parted at the byte there. As many bytes of the line come
-- before it as its column says.
pub record IsExcerpt (text : List ℕ) (place : Place) (excerpt : Excerpt) : Type 0 where
  pub start : ℕ
  pub offset : ℕ
  pub end : ℕ
  pub line : IsLine text start end
  pub from : start ≤ offset
  pub to : offset ≤ end
  pub at_place : IsAt text place offset
  pub told : excerpt.place ≡ place
  pub before : excerpt.before.now ≡ slice_range text start offset
  pub behind : excerpt.behind.now ≡ slice_range text offset end
  pub column : length excerpt.before.now + 1 ≡ place.column
