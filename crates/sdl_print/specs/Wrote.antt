-- What a function has written.
use Rattle.std.specs.Prelude.{◌≡◌, ℕ, ℤ, List, ◌∷◌, ◌++◌}
use Rattle.std.specs.Fmt.{signed_decimal}
use Rattle.sdl_tree.specs.declared.mark.Mark.{Mark}
use Rattle.sdl_tree.specs.declared.mark.Mark.TheVariants as mark
use Rattle.sdl_tree.specs.Canonical.{fixed, text_of}
use Rattle.sdl_tree.specs.Erased.{start}
use Rattle.sdl_tree.specs.Words.{Word, Words}
use Rattle.sdl_tree.specs.Words as word

-- the text with these words behind it
unfoldable pub followed_by : List ℕ → Words → List ℕ
followed_by text j = text ++ text_of j

-- Between the two, exactly these words were written: whatever words come next, the new text with these behind it is the
-- old text with those.
abbrev pub Wrote : List ℕ → List ℕ → (Words → Words) → Type 0
Wrote old new words = (j : Words) → followed_by new j ≡ followed_by old (words j)

abbrev pub mark_words : Mark → Words → Words
mark_words m j = fixed m ∷ j

-- a name that is spelled so
abbrev pub spelled_words : List ℕ → Words → Words
spelled_words text j = word.Name (record { text = text; place = start }) ∷ j

-- a number in decimal
abbrev pub decimal_word : ℤ → Word
decimal_word n = word.Number n (record { text = signed_decimal n; place = start })

abbrev pub decimal_words : ℤ → Words → Words
decimal_words n j = decimal_word n ∷ j

-- an item with a comma before it
abbrev pub after_comma : {A : Type 0} → (A → Words → Words) → A → Words → Words
after_comma words x j = fixed mark.Comma ∷ words x j

-- an item with this mark behind it
abbrev pub before : {A : Type 0} → (A → Words → Words) → Mark → A → Words → Words
before words m x j = words x (fixed m ∷ j)

-- an item with this mark before it
abbrev pub behind : {A : Type 0} → Mark → (A → Words → Words) → A → Words → Words
behind m words x j = fixed m ∷ words x j
