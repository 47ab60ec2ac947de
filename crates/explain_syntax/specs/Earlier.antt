-- A place that comes before another one.
use Rattle.std.specs.Prelude.{◌≡◌, ℕ, ◌<◌, ◌⊎◌, List, length, take}
use Rattle.sdl_lex.specs.declared.place.Place.{Place}
use Rattle.explain_syntax.specs.Excerpt.{IsExcerpt}
use Rattle.explain_syntax.specs.declared.lines.excerpt.Excerpt.{Excerpt}

-- the first place comes before the second in the text
abbrev pub IsBefore : Place → Place → Type 0
IsBefore place than =
    (place.line < than.line) ⊎ ((place.line ≡ than.line) × (place.column < than.column))

-- The excerpt is that of a place of the text before the other one, and just this word is marked there.
pub record IsEarlier (text word : List ℕ) (than : Place) (excerpt : Excerpt) : Type 0 where
  pub of_text : IsExcerpt text excerpt.place excerpt
  pub before : IsBefore excerpt.place than
  pub spelled : take (length word) excerpt.behind.now ≡ word
  pub marked : excerpt.width ≡ length word

-- The excerpt is that of a place of the text before the other one.
pub record StandsBefore (text : List ℕ) (than : Place) (excerpt : Excerpt) : Type 0 where
  pub of_text : IsExcerpt text excerpt.place excerpt
  pub before : IsBefore excerpt.place than
