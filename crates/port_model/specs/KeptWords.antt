-- Words that are kept beside what happens, in their order. None: no list is kept, or it was given up.
use Rattle.std.specs.Prelude.{◌≡◌, ◌⊎◌, ℕ, List, [], ◌∷◌, ◌++◌, Option, None, Some, IfSome}

-- the list with this word behind all others
abbrev pub with_word : Option (List ℕ) → ℕ → Option (List ℕ)
with_word None word = None
with_word (Some list) word = Some (list ++ word ∷ [])

-- The word is noted, or the list is given up.
abbrev pub Notes : Option (List ℕ) → ℕ → Option (List ℕ) → Type 0
Notes old word new = (new ≡ with_word old word) ⊎ (new ≡ None)

-- both lists, one after the other, if both are kept
abbrev pub with_all : Option (List ℕ) → Option (List ℕ) → Option (List ℕ)
with_all (Some list) (Some words) = Some (list ++ words)
with_all list words = None

-- All words are noted, or the list is given up.
abbrev pub NotesAll : Option (List ℕ) → Option (List ℕ) → Option (List ℕ) → Type 0
NotesAll old words new = (new ≡ with_all old words) ⊎ (new ≡ None)

-- a list without a word, if one is kept
abbrev pub emptied : Option (List ℕ) → Option (List ℕ)
emptied None = None
emptied (Some words) = Some []

-- If the list is kept, it has just these words.
abbrev pub IsKeptOf : Option (List ℕ) → List ℕ → Type 0
IsKeptOf kept words = IfSome kept (λ list. list ≡ words)
