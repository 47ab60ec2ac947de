-- Which words are told as left out: those that belong to no construct that is read, or not where they stand.
use Rattle.std.specs.Prelude.{◌≡◌, List, [], ◌∷◌, ◌++◌, codes, ℕ}
use Rattle.sdl_tree.specs.declared.mark.Mark.TheVariants as mark
use Rattle.sdl_tree.specs.declared.name.Spelling.{Spelling}
use Rattle.sdl_tree.specs.Spells.Behaviour.{SpellsIn1}
use Rattle.sdl_tree.specs.Spells.Parts.{IsMark, Both, Behind, Separated, Ended, Begins}
use Rattle.sdl_tree.specs.Tree.{Input}
use Rattle.sdl_tree.specs.Words.{Words, Fixed}
use Rattle.sdl_tree.specs.Words as word

-- "priority" "input" in1 {"," in1} end
abbrev pub PriorityHead : Spelling × List Input → Words → Words → Type 0
PriorityHead h i j = Both (IsMark mark.Priority) (Behind mark.Input (Ended (Separated SpellsIn1))) h i j

-- Of the words `i` the last ones begin with a `provided` right behind the end of a priority input, which has no condition.
abbrev pub IsBarred : Words → Words → Type 0
IsBarred i last = (before : Words) × (from : Words) × (i ≡ before ++ from) × (h : Spelling × List Input) × PriorityHead h from last × Begins mark.Provided last

-- The first of the last words of `i` is told so: a word of the standard that is left out, in lower case; a character
-- string, as `text`; a `provided` behind a priority input.
abbrev pub IsLeftOut : Words → Words → List ℕ → Type 0
IsLeftOut i [] told = ⊥
IsLeftOut i (word.LeftOut lower x ∷ back) told = told ≡ lower
IsLeftOut i (word.Text x ∷ back) told = told ≡ codes "text"
IsLeftOut i (Fixed m s ∷ back) told = (told ≡ codes "provided") × IsBarred i (Fixed m s ∷ back)
IsLeftOut i (word.Name x ∷ back) told = ⊥
IsLeftOut i (word.Number n x ∷ back) told = ⊥
