-- Variables that nobody gives a first value.
use Rattle.std.specs.Prelude.{ℕ, ◌-◌, ◌==◌, ◌&&◌, ◌||◌, Bool, not, false, List, [], ◌∷◌, ◌++◌, Option, None, Some, if◌then◌else◌}
use Rattle.parse_expressions.specs.declared.word.PlacedWord.{PlacedWord}
use Rattle.sdl_tree.specs.declared.mark.Mark.TheVariants as mark
use Rattle.sdl_warnings.specs.Colons.{named}
use Rattle.sdl_warnings.specs.Heads.{HeadValue, after, inner, named_at, nowhere}
use Rattle.sdl_warnings.specs.Missing.{missing}
use Rattle.sdl_warnings.specs.Sets.{among}
use Rattle.sdl_warnings.specs.Unused.{is_again}
use Rattle.sdl_warnings.specs.Words.{is_mark, is_name, name_in}
use Rattle.sdl_warnings.specs.declared.heads.Spot.{Spot}
use Rattle.sdl_warnings.specs.declared.suspicion.Suspicion.TheVariants.{UnsetVariable}
use Rattle.sdl_warnings.specs.declared.suspicion.Warning.{Warning}

-- Whether a variable has an initial value that comes before these words: other variables of its group, their sort, and what
-- comes then. Only so many variables are looked at; one before more of them counts as one with a value.
abbrev pub has_initial : ℕ → List PlacedWord → Bool
has_initial most [] = false
has_initial most (one ∷ []) = false
has_initial most (one ∷ two ∷ more) =
    if is_mark mark.Comma one then (most == 0) || has_initial (most - 1) more else is_mark mark.Assign two

-- the variables without an initial value
abbrev pub uninitialized : Spot → List PlacedWord → List HeadValue
uninitialized spot [] = []
uninitialized spot (word ∷ more) =
    named_at (spot.begins && not (has_initial 100 more)) word.place (name_in word)
    ++ uninitialized (after mark.Dcl spot word) more

-- whether a name is in an expression with which these words begin, up to a comma or a semicolon
abbrev pub is_in_expression : List ℕ → List PlacedWord → Bool
is_in_expression text [] = false
is_in_expression text (word ∷ more) =
    not (is_mark mark.Comma word || is_mark mark.Semicolon word) && (is_name text word || is_in_expression text more)

-- the name that a word is, if its new value doesn't need the old one
abbrev pub fresh : List HeadValue → List PlacedWord → List HeadValue
fresh [] words = []
fresh (head ∷ more) words = (if is_in_expression head.name words then [] else head ∷ []) ++ fresh more words

-- the names before `:=` that aren't in the expression after it; `before` comes before the words
abbrev pub assigned : Option PlacedWord → List PlacedWord → List HeadValue
assigned before [] = []
assigned before (word ∷ more) =
    (if is_mark mark.Assign word then fresh (named before) more else []) ++ assigned (Some word) more

-- The variables in the words of a process that are used there, but have no initial value, no value of an input, and no
-- value of a task that doesn't need an earlier one.
abbrev pub unset : List PlacedWord → List Warning
unset words = missing UnsetVariable
    (λ text. not (is_again words text) || (among (assigned None words) text || among (inner mark.Input words) text))
    (uninitialized nowhere words)
