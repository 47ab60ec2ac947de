-- Which bytes are a token.
use Rattle.std.specs.Prelude.{◌≡◌, ◌≢◌, ℕ, ◌+◌, ◌-◌, ◌*◌, ◌≤◌, pos, Bool, false, ◌&&◌, ◌||◌, if◌then◌else◌, ◌==◌, IsTrue, List, [], ◌∷◌, ◌++◌, length, fold, codes}
use Rattle.std.specs.Char.{is_ascii_alphabetic, is_ascii_digit}
use Rattle.std.specs.List.{list_all}
use Rattle.sdl_lex.specs.declared.token.Kind.{Kind}
use Rattle.sdl_lex.specs.declared.token.Kind.TheVariants.{Word, Number, Text, Mark}
use Rattle.sdl_lex.specs.Byte.{is_among, is_word_byte, is_quote, is_mark_byte}

-- a letter, then letters, digits and `_`
abbrev pub IsWord : List ℕ → Type 0
IsWord [] = ⊥
IsWord (b ∷ bytes) = IsTrue (is_ascii_alphabetic b) × IsTrue (list_all is_word_byte bytes)

-- the value of a row of decimal digits
abbrev pub decimal : List ℕ → ℕ
decimal digits = fold (λ value digit. 10 * value + (digit - 48)) 0 digits

abbrev pub IsDigits : List ℕ → Type 0
IsDigits [] = ⊥
IsDigits (b ∷ bytes) = IsTrue (list_all is_ascii_digit (b ∷ bytes))

-- each quote twice
abbrev pub doubled : List ℕ → List ℕ
doubled [] = []
doubled (b ∷ bytes) = if is_quote b then b ∷ b ∷ doubled bytes else b ∷ doubled bytes

-- from quote to quote, with the quotes between them doubled
abbrev pub IsQuoted : List ℕ → Type 0
IsQuoted bytes = (body : List ℕ) × (bytes ≡ codes "'" ++ (doubled body ++ codes "'"))

abbrev pub BeginsQuoted : List ℕ → Type 0
BeginsQuoted [] = ⊥
BeginsQuoted (b ∷ bytes) = IsTrue (is_quote b)

abbrev pub is_mark : List ℕ → Bool
is_mark [] = false
is_mark (b ∷ []) = is_mark_byte b
-- := /= <= >= =>
is_mark (b ∷ c ∷ []) = (is_among b (codes ":/<>") && c == 61) || (b == 61 && c == 62)
is_mark (b ∷ c ∷ d ∷ bytes) = false

-- The bytes are a token of the kind, where others come after them: the quote that ends a character string is single.
abbrev pub Is : Kind → List ℕ → List ℕ → Type 0
Is Word bytes after = IsWord bytes
Is (Number n) bytes after = IsDigits bytes × (n ≡ pos (decimal bytes))
Is Text bytes after = IsQuoted bytes × ¬ BeginsQuoted after
Is Mark bytes after = IsTrue (is_mark bytes)

-- with some of what comes after them, the bytes are no token
abbrev pub IsLongest : List ℕ → List ℕ → Type 0
IsLongest bytes after = (k : Kind) (more others : List ℕ) → more ≢ [] → after ≡ more ++ others → ¬ Is k (bytes ++ more) others

-- a word has at most 255 bytes, and a number 63 bits
abbrev pub IsAllowed : Kind → List ℕ → Type 0
IsAllowed Word bytes = length bytes ≤ 255
IsAllowed (Number n) bytes = decimal bytes ≤ 9223372036854775807
IsAllowed Text bytes = Unit {0}
IsAllowed Mark bytes = Unit {0}
