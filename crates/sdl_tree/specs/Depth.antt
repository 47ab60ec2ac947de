-- Which word of a text opens one too many inside each other. What counts, the grammar says: the depth of *Spells*.
use Rattle.std.specs.Prelude.{◌≡◌, ℕ, ◌⊎◌, suc, [], ◌∷◌, ◌++◌}
use Rattle.sdl_tree.specs.declared.mark.Mark.TheVariants as mark
use Rattle.sdl_tree.specs.declared.name.Spelling.{Spelling}
use Rattle.sdl_tree.specs.Spells.{SpellsTree}
use Rattle.sdl_tree.specs.Tree.{Tree}
use Rattle.sdl_tree.specs.Words.{Word, Words, Fixed}

-- a parenthesis or a decision, of which the grammar counts some
abbrev pub IsOpening : Word → Type 0
IsOpening w = (s : Spelling) × ((w ≡ Fixed mark.Open s) ⊎ (w ≡ Fixed mark.Decision s))

-- some text that begins so spells a tree
abbrev pub GoesOn : ℕ → Words → Type 0
GoesOn depth front = (t : Tree) × (back : Words) × SpellsTree depth t (front ++ back)

-- The word behind these opens one too many inside each other: with it no text goes on, one does where one more may stand
-- inside each other, and up to each opening word before it one does as it is.
abbrev pub OpensTooMany : ℕ → Words → Word → Type 0
OpensTooMany depth front w = IsOpening w × GoesOn (suc depth) (front ++ w ∷ []) × ¬ GoesOn depth (front ++ w ∷ [])
    × ((before between : Words) (opening : Word) → front ≡ before ++ opening ∷ between → IsOpening opening → GoesOn depth (before ++ opening ∷ []))
