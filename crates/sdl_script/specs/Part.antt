-- The parts of a line of a script: numbers, words and marks, with spaces behind them.
use Rattle.std.specs.Prelude.{◌≡◌, ℕ, Bool, ◌||◌, ◌==◌, IsFalse, List, [], ◌∷◌, ◌++◌, drop}
use Rattle.std.specs.Char.{is_ascii_digit}
use Rattle.std.specs.List.{prefix_len}
use Rattle.sdl_lex.specs.Byte.{is_word_byte}
use Rattle.sdl_lex.specs.Kind.{decimal, IsDigits, IsWord}

-- a space is a blank or a tab
abbrev pub is_space : ℕ → Bool
is_space b = b == 32 || b == 9

-- the bytes without the spaces at their front
abbrev pub past_spaces : List ℕ → List ℕ
past_spaces bytes = drop (prefix_len is_space bytes) bytes

-- the bytes begin with no such byte
abbrev pub Stops : (ℕ → Bool) → List ℕ → Type 0
Stops p [] = Unit {0}
Stops p (b ∷ bytes) = IsFalse (p b)

-- the bytes are this mark, spaces, and the rest
abbrev pub SpellsMark : ℕ → List ℕ → List ℕ → Type 0
SpellsMark mark bytes rest = (after : List ℕ) × (bytes ≡ mark ∷ after) × (rest ≡ past_spaces after)

-- the bytes are a number, in as many digits as stand there, spaces, and the rest
abbrev pub SpellsNumber : ℕ → List ℕ → List ℕ → Type 0
SpellsNumber n bytes rest =
    (digits after : List ℕ) × (bytes ≡ digits ++ after) × IsDigits digits × Stops is_ascii_digit after
    × (n ≡ decimal digits) × (rest ≡ past_spaces after)

-- the bytes are this word, which doesn't go on behind it, spaces, and the rest
abbrev pub SpellsWord : List ℕ → List ℕ → List ℕ → Type 0
SpellsWord word bytes rest =
    (after : List ℕ) × (bytes ≡ word ++ after) × IsWord word × Stops is_word_byte after × (rest ≡ past_spaces after)
