-- Names that are nowhere but where they are defined.
use Rattle.std.specs.Prelude.{ℕ, Bool, List, [], ◌∷◌, ◌++◌, if◌then◌else◌, nat_lt}
use Rattle.parse_expressions.specs.declared.word.PlacedWord.{PlacedWord}
use Rattle.sdl_lex.specs.declared.place.Place.{Place}
use Rattle.sdl_warnings.specs.Words.{times}
use Rattle.sdl_warnings.specs.declared.defined.Defined.{Defined}
use Rattle.sdl_warnings.specs.declared.suspicion.Suspicion.{Suspicion}
use Rattle.sdl_warnings.specs.declared.suspicion.Warning.{Warning}

-- a name that is defined, where that is, and what it is if nobody uses it
pub record DefinedValue : Type 0 where
  pub name : List ℕ
  pub place : Place
  pub unused : Suspicion

abbrev pub defined_value : Defined → DefinedValue
defined_value defined = record { name = defined.name.now; place = defined.place; unused = defined.unused }

-- a warning for a name, by whether it is somewhere else
abbrev pub unused_by : Bool → DefinedValue → List Warning
unused_by again one = if again then [] else record { suspicion = one.unused; place = one.place } ∷ []

-- whether a name is more than once among words
abbrev pub is_again : List PlacedWord → List ℕ → Bool
is_again words text = nat_lt 1 (times text words)

-- a warning for each name that is once among the words
abbrev pub unused : List PlacedWord → List DefinedValue → List Warning
unused words [] = []
unused words (one ∷ more) = unused_by (is_again words one.name) one ++ unused words more
