-- What is left out of a text around the word at a place.
use Rattle.std.specs.Prelude.{◌≡◌, ℕ, ◌+◌, ◌&&◌, ◌||◌, nat_le, nat_lt, Bool, true, false, List, [], ◌∷◌, ◌++◌, Option, None, Some, length, map, option_map, slice_get, if◌then◌else◌}
use Rattle.std.specs.List.{list_any}
use Rattle.std.specs.Str.{bytes_eq}
use Rattle.std.specs.String.{string_bytes}
use Rattle.parse_expressions.specs.PlacedWord.{word_of_placed}
use Rattle.parse_expressions.specs.declared.word.PlacedWord.{PlacedWord}
use Rattle.sdl_lex.specs.LexError.{Refuses}
use Rattle.sdl_lex.specs.Part.{Lexes}
use Rattle.sdl_lex.specs.declared.error.LexError.{LexError}
use Rattle.sdl_lex.specs.declared.error.LexError.TheVariants.{Memory}
use Rattle.sdl_lex.specs.declared.place.Place.{Place}
use Rattle.sdl_lex.specs.declared.token.Token.{Token}
use Rattle.sdl_tree.specs.Words.{words_of}
use Rattle.sdl_tree.specs.declared.mark.Mark.TheVariants as mark
use Rattle.explain_syntax.specs.Cut.{cut_around}
use Rattle.explain_syntax.specs.Rest.{IsFilled}
use Rattle.explain_syntax.specs.Words.{is_definition_in, is_mark_in, is_same_place, name_in}
use Rattle.explain_syntax.specs.declared.rests.cut.Cut.{Cut}
use Rattle.explain_syntax.specs.declared.rests.gap.Gap.{Gap}
use Rattle.explain_syntax.specs.declared.rests.rest.Rest.{Rest}

-- bytes from one up to another, whether a `stop` takes their place, and the names among them that may be missed
pub record GapValue : Type 0 where
  pub from : ℕ
  pub to : ℕ
  pub stops : Bool
  pub names : List (List ℕ)

abbrev pub gap_value : Gap → GapValue
gap_value gap = record { from = gap.from; to = gap.to; stops = gap.stops; names = map string_bytes gap.names.items }

abbrev pub begin_by : List ℕ → Option Token → ℕ
begin_by text None = length text
begin_by text (Some token) = token.start

-- where a token begins; the end of the text, if there is none of this number
abbrev pub begin_of : List ℕ → List Token → ℕ → ℕ
begin_of text tokens number = begin_by text (slice_get tokens number)

abbrev pub listed : Bool → Option (List ℕ) → List (List ℕ)
listed false name = []
listed true None = []
listed true (Some name) = name ∷ []

-- whether the word of this number is left out
abbrev pub is_within : Cut → ℕ → Bool
is_within cut at = nat_le cut.from at && nat_lt at cut.to

-- Whether something may be missed without the name that this word is, if it is left out: a definition or a label has it.
-- At the place itself it is wrong, and may be wrong again elsewhere.
abbrev pub is_missed : List PlacedWord → Place → Cut → ℕ → PlacedWord → Bool
is_missed words place cut at word =
    is_within cut at
    && (is_definition_in (slice_get words cut.from)
    || (is_same_place word.place place || is_mark_in mark.Colon (slice_get words (at + 1))))

-- the names among these words, which are numbered from there on, that may be missed
abbrev pub names_from : List PlacedWord → Place → Cut → ℕ → List PlacedWord → List (List ℕ)
names_from words place cut at [] = []
names_from words place cut at (word ∷ more) =
    listed (is_missed words place cut at word) (name_in word) ++ names_from words place cut (at + 1) more

abbrev pub gap_of : List ℕ → List Token → List PlacedWord → Place → Cut → GapValue
gap_of text tokens words place cut = record {
  from = begin_of text tokens cut.from;
  to = begin_of text tokens cut.to;
  stops = cut.stops;
  names = names_from words place cut 0 words;
}

-- whether a text has no tokens only because memory is lacking
abbrev pub is_lack : LexError → Bool
is_lack Memory = true
is_lack _ = false

-- what is left out around the word at this place; nothing, if the text has no tokens
pub data IsGapAt (text : List ℕ) (place : Place) : Option GapValue → Type 0 where
  unread : (error : LexError) → Refuses error text → is_lack error ≡ false → IsGapAt text place None
  read :
      (tokens : List Token) (words : List PlacedWord) → Lexes text tokens
      → map word_of_placed words ≡ words_of text tokens
      → IsGapAt text place (option_map (gap_of text tokens words place) (cut_around words place))

-- something is left out around this place: its bytes make room, and its names are added to those that may be missed
pub record LeavesOut (place : Place) (old new : Rest) : Type 0 where
  pub gap : GapValue
  pub is_there : IsGapAt old.text.items place (Some gap)
  pub filled : IsFilled gap.from gap.to gap.stops old.text.items new.text.items
  pub named : map string_bytes new.names.items ≡ map string_bytes old.names.items ++ gap.names

-- nothing is left out around this place, and the rest stays as it was
pub record LeavesAll (place : Place) (old new : Rest) : Type 0 where
  pub is_none : IsGapAt old.text.items place None
  pub same : new ≡ old

abbrev pub LeavesOutIf : Place → Rest → Rest → Bool → Type 0
LeavesOutIf place old new true = LeavesOut place old new
LeavesOutIf place old new false = LeavesAll place old new

-- whether this is one of the names that may be missed
abbrev pub lacks : Rest → List ℕ → Bool
lacks rest name = list_any (λ other. bytes_eq (string_bytes other) name) rest.names.items
