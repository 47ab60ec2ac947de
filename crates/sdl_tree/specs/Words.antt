-- What the tokens of a text mean to the grammar, how they are spelled and where they stand.
use Rattle.std.specs.Prelude.{ℕ, ℤ, Option, Some, None, List, map, option_map, slice_range, take}
use Rattle.sdl_lex.specs.Place.{place_after}
use Rattle.sdl_lex.specs.declared.place.Place.{Place}
use Rattle.sdl_lex.specs.declared.token.Kind.{Kind}
use Rattle.sdl_lex.specs.declared.token.Kind.TheVariants as kind
use Rattle.sdl_lex.specs.declared.token.Token.{Token}
use Rattle.sdl_tree.specs.declared.mark.Case.TheVariants.{Lower}
use Rattle.sdl_tree.specs.declared.mark.Mark.{Mark}
use Rattle.sdl_tree.specs.declared.keyword.Keyword.{Keyword}
use Rattle.sdl_tree.specs.declared.name.Spelling.{Spelling}
use Rattle.sdl_tree.specs.Keyword.{keyword_found, sign_found, left_out_found}
use Rattle.sdl_tree.specs.Mark.{spelled}

-- how a name, a number or a string is spelled, and where it stands
pub record Spot : Type 0 where
  pub text : List ℕ
  pub place : Place

pub data Word : Type 0 where
  -- a keyword, a literal or another mark
  Fixed : (mark : Mark) (spelling : Spelling) → Word
  Name : (spot : Spot) → Word
  Number : (value : ℤ) (spot : Spot) → Word
  -- a character string
  Text : (spot : Spot) → Word
  -- a word of the standard that is left out here, in lower case
  LeftOut : (lower : List ℕ) (spot : Spot) → Word

abbrev pub Words : Type 0
Words = List Word

-- a mark at this place
abbrev pub fixed_at : Place → Keyword → Word
fixed_at place found = Fixed found.mark (record { case = found.case; place = place })

-- the mark, if there is one, and else this
abbrev pub fixed_or : Word → Place → Option Keyword → Word
fixed_or other place None = other
fixed_or other place (Some found) = fixed_at place found

-- a mark of other characters has one spelling
abbrev pub in_lower_case : Mark → Keyword
in_lower_case m = record { mark = m; case = Lower }

abbrev pub left_out_or : Word → Spot → Option (List ℕ) → Word
left_out_or other spot None = other
left_out_or other spot (Some lower) = LeftOut lower spot

-- What a token of this kind, spelled so and at this place, means: a word is a keyword or a literal, else left out, else
-- a name. Each token of the kind `Mark` is one of the signs.
unfoldable pub word_of : Kind → Spot → Word
word_of kind.Word spot = fixed_or (left_out_or (Name spot) spot (left_out_found spot.text)) spot.place (keyword_found spot.text)
word_of (kind.Number n) spot = Number n spot
word_of kind.Text spot = Text spot
word_of kind.Mark spot = fixed_or (Name spot) spot.place (option_map in_lower_case (sign_found spot.text))

-- a token's slice of the text, and its place
abbrev pub spot_of : List ℕ → Token → Spot
spot_of text t = record { text = slice_range text t.start t.end; place = place_after (take t.start text) }

-- the words of a text with these tokens
abbrev pub words_of : List ℕ → List Token → Words
words_of text tokens = map (λ t. word_of t.kind (spot_of text t)) tokens

-- how a word is spelled
abbrev pub word_text : Word → List ℕ
word_text (Fixed m s) = spelled m s.case
word_text (Name x) = x.text
word_text (Number n x) = x.text
word_text (Text x) = x.text
word_text (LeftOut lower x) = x.text

-- where a word stands
abbrev pub word_place : Word → Place
word_place (Fixed m s) = s.place
word_place (Name x) = x.place
word_place (Number n x) = x.place
word_place (Text x) = x.place
word_place (LeftOut lower x) = x.place
