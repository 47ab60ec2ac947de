-- The words of a text, and those that are written: where they stand with blanks between them, they are read again.
use Rattle.std.specs.Prelude.{◌≡◌, ℕ, ℤ, ◌≤◌, pos, None, List, [], ◌∷◌, length}
use Rattle.std.specs.Fmt.{signed_decimal}
use Rattle.sdl_lex.specs.Kind.{IsWord}
use Rattle.sdl_tree.specs.Erased.{plain}
use Rattle.sdl_tree.specs.Keyword.{keyword_found, left_out_found}
use Rattle.sdl_tree.specs.Words.{Word, Words, Fixed, Name, Number, Text, LeftOut}

-- a word that is no keyword, no literal and none of the words that are left out
abbrev pub IsName : List ℕ → Type 0
IsName x = IsWord x × (length x ≤ 255) × (keyword_found x ≡ None) × (left_out_found x ≡ None)

abbrev pub IsNumber : ℤ → Type 0
IsNumber n = (k : ℕ) × (n ≡ pos k) × (k ≤ 9223372036854775807)

-- what the words of a text are
abbrev pub IsKnown : Word → Type 0
IsKnown (Fixed m s) = Unit {0}
IsKnown (Name x) = IsName x.text
IsKnown (Number n x) = IsNumber n
IsKnown (Text x) = Unit {0}
IsKnown (LeftOut lower x) = Unit {0}

abbrev pub AreKnown : Words → Type 0
AreKnown [] = Unit {0}
AreKnown (w ∷ words) = IsKnown w × AreKnown words

-- A word that is written is such a word, in lower case or in decimal, and neither a character string nor left out.
abbrev pub IsWritable : Word → Type 0
IsWritable (Fixed m s) = s ≡ plain
IsWritable (Name x) = IsName x.text
IsWritable (Number n x) = IsNumber n × (x.text ≡ signed_decimal n)
IsWritable (Text x) = ⊥
IsWritable (LeftOut lower x) = ⊥

abbrev pub AreWritable : Words → Type 0
AreWritable [] = Unit {0}
AreWritable (w ∷ words) = IsWritable w × AreWritable words
