-- What a word is.
use Rattle.std.specs.Prelude.{ℕ, Bool, true, false, Option, None, Some, List, count_by}
use Rattle.std.specs.Str.{bytes_eq}
use Rattle.parse_expressions.specs.Reading.{same_mark}
use Rattle.parse_expressions.specs.declared.word.PlacedWord.{PlacedWord}
use Rattle.parse_expressions.specs.declared.word.Word.{Word}
use Rattle.parse_expressions.specs.declared.word.Word.TheVariants.{Fixed, Name, Number, Text, LeftOut}
use Rattle.sdl_tree.specs.declared.mark.Mark.{Mark}

abbrev pub fixed_by : Word → Option Mark
fixed_by (Fixed mark case) = Some mark
fixed_by (Name text) = None
fixed_by (Number value digits) = None
fixed_by (Text text) = None
fixed_by (LeftOut lower text) = None

abbrev pub named_by : Word → Option (List ℕ)
named_by (Fixed mark case) = None
named_by (Name text) = Some text.now
named_by (Number value digits) = None
named_by (Text text) = None
named_by (LeftOut lower text) = None

-- the keyword or mark that a word is
abbrev pub mark_in : PlacedWord → Option Mark
mark_in word = fixed_by word.word

-- the name that a word is
abbrev pub name_in : PlacedWord → Option (List ℕ)
name_in word = named_by word.word

abbrev pub is_mark_by : Mark → Option Mark → Bool
is_mark_by mark None = false
is_mark_by mark (Some found) = same_mark found mark

-- whether a word is this mark
abbrev pub is_mark : Mark → PlacedWord → Bool
is_mark mark word = is_mark_by mark (mark_in word)

abbrev pub is_name_by : List ℕ → Option (List ℕ) → Bool
is_name_by text None = false
is_name_by text (Some name) = bytes_eq text name

-- whether a word is this name
abbrev pub is_name : List ℕ → PlacedWord → Bool
is_name text word = is_name_by text (name_in word)

abbrev pub is_number_by : Word → Bool
is_number_by (Fixed mark case) = false
is_number_by (Name text) = false
is_number_by (Number value digits) = true
is_number_by (Text text) = false
is_number_by (LeftOut lower text) = false

-- whether a word is a number
abbrev pub is_number : PlacedWord → Bool
is_number word = is_number_by word.word

-- how often a name is among words
abbrev pub times : List ℕ → List PlacedWord → ℕ
times text words = count_by (is_name text) words
