-- Names before a mark.
use Rattle.std.specs.Prelude.{ℕ, ◌+◌, ◌-◌, ◌^◌, ◌==◌, ◌&&◌, min, true, List, [], ◌∷◌, ◌++◌, Option, None, Some, if◌then◌else◌}
use Rattle.parse_expressions.specs.declared.word.PlacedWord.{PlacedWord}
use Rattle.sdl_tree.specs.declared.mark.Mark.TheVariants as mark
use Rattle.sdl_warnings.specs.Heads.{HeadValue, named_at}
use Rattle.sdl_warnings.specs.Words.{is_mark, name_in}

-- the name that a word is
abbrev pub named : Option PlacedWord → List HeadValue
named None = []
named (Some word) = named_at true word.place (name_in word)

-- how many parentheses are open after a word
abbrev pub depth_after : ℕ → PlacedWord → ℕ
depth_after depth word =
    if is_mark mark.Open word then min (depth + 1) (2 ^ 64 - 1)
    else if is_mark mark.Close word then depth - 1
    else depth

-- the names that a colon comes after, in no parentheses
abbrev pub labels : ℕ → Option PlacedWord → List PlacedWord → List HeadValue
labels depth before [] = []
labels depth before (word ∷ more) =
    (if (depth == 0) && is_mark mark.Colon word then named before else []) ++ labels (depth_after depth word) (Some word) more
