-- Names in a list behind a keyword, as those of `state a, b;` or `output a(1), b to p;`.
use Rattle.std.specs.Prelude.{ℕ, ◌+◌, ◌-◌, ◌^◌, min, ◌==◌, ◌&&◌, Bool, true, false, List, [], ◌∷◌, ◌++◌, Option, None, Some, nat_lt, if◌then◌else◌}
use Rattle.parse_expressions.specs.declared.word.PlacedWord.{PlacedWord}
use Rattle.parse_expressions.specs.Reading.{same_mark}
use Rattle.sdl_lex.specs.declared.place.Place.{Place}
use Rattle.sdl_tree.specs.declared.mark.Mark.{Mark}
use Rattle.sdl_tree.specs.declared.mark.Mark.TheVariants as mark
use Rattle.sdl_warnings.specs.Words.{mark_in, name_in}
use Rattle.sdl_warnings.specs.declared.heads.Head.{Head}
use Rattle.sdl_warnings.specs.declared.heads.Spot.{Spot}

-- a name and its place
pub record HeadValue : Type 0 where
  pub name : List ℕ
  pub place : Place

abbrev pub head_value : Head → HeadValue
head_value head = record { name = head.name.now; place = head.place }

-- whether a place is in a list, and in no parentheses
abbrev pub is_outside : Spot → Bool
is_outside spot = spot.is_within && (spot.depth == 0)

-- outside of each list
abbrev pub nowhere : Spot
nowhere = record { depth = 0; is_within = false; begins = false }

-- Where a mark leads, in search of lists that `list` begins. A comma outside of parentheses begins another element, and a
-- semicolon ends the list.
abbrev pub with_mark : Mark → Spot → Mark → Spot
with_mark list spot here =
    if same_mark here mark.Semicolon then nowhere
    else if same_mark here list then record { depth = 0; is_within = true; begins = true }
    else if same_mark here mark.Open then record spot { depth = min (spot.depth + 1) (2 ^ 64 - 1); begins = false }
    else if same_mark here mark.Close then record spot { depth = spot.depth - 1; begins = false }
    else record spot { begins = same_mark here mark.Comma && is_outside spot }

abbrev pub with_word : Mark → Spot → Option Mark → Spot
with_word list spot (Some mark) = with_mark list spot mark
with_word list spot None = record spot { begins = false }

abbrev pub after : Mark → Spot → PlacedWord → Spot
after list spot word = with_word list spot (mark_in word)

abbrev pub named_at : Bool → Place → Option (List ℕ) → List HeadValue
named_at true place (Some name) = record { name = name; place = place } ∷ []
named_at true place None = []
named_at false place name = []

-- the name that a word is, if an element begins there
abbrev pub head_at : Spot → PlacedWord → List HeadValue
head_at spot word = named_at spot.begins word.place (name_in word)

-- the name that a word is, if it is in parentheses of a list
abbrev pub inner_at : Spot → PlacedWord → List HeadValue
inner_at spot word = named_at (spot.is_within && nat_lt 0 spot.depth) word.place (name_in word)

-- what `one` takes of each word, from here on
abbrev pub scan : (Spot → PlacedWord → List HeadValue) → Mark → Spot → List PlacedWord → List HeadValue
scan one list spot [] = []
scan one list spot (word ∷ more) = one spot word ++ scan one list (after list spot word) more

-- the names with which elements of lists begin that this mark begins
abbrev pub heads : Mark → List PlacedWord → List HeadValue
heads list words = scan head_at list nowhere words

-- the names in parentheses of these lists
abbrev pub inner : Mark → List PlacedWord → List HeadValue
inner list words = scan inner_at list nowhere words
