-- Classes of bytes.
use Rattle.std.specs.Prelude.{ℕ, Bool, false, ◌||◌, ◌==◌, List, [], ◌∷◌, codes}
use Rattle.std.specs.Char.{is_ascii_alphanumeric}

abbrev pub is_among : ℕ → List ℕ → Bool
is_among b [] = false
is_among b (c ∷ bytes) = b == c || is_among b bytes

-- blank, tab, CR and LF
abbrev pub is_blank : ℕ → Bool
is_blank b = is_among b (32 ∷ 9 ∷ 13 ∷ 10 ∷ [])

-- what a word may have after its first letter
abbrev pub is_word_byte : ℕ → Bool
is_word_byte b = is_ascii_alphanumeric b || b == 95

abbrev pub is_quote : ℕ → Bool
is_quote b = b == 39

-- the marks of one byte
abbrev pub is_mark_byte : ℕ → Bool
is_mark_byte b = is_among b (codes "(),;:=<>+-*/")
