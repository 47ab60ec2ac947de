-- The words of a text, as far as they are classified, and what the order of tokens says of the first one.
use Rattle.std.proofs.Common.{◌≡◌, ℕ, List, [], ◌∷◌, ◌++◌, map, slice_range, take, All, sym, ap, ◌∙◌, subst, append_assoc, ◌≤◌, ◌<◌, arith}
use Rattle.std.proofs.lemmas.Grind.{common_steps}
use Rattle.std.proofs.lemmas.List.{length-take-le}
use Rattle.std.proofs.lemmas.List.Elements.{All-head, All-tail}
use Rattle.std.proofs.lemmas.List.Sums.{count_by-le-length, suffix_len-le-length}
use Rattle.std.proofs.lemmas.Str.{IsUtf8-from_ascii}
use Rattle.sdl_lex.specs.declared.place.Place.{Place}
use Rattle.sdl_lex.specs.declared.token.Token.{Token}
use Rattle.sdl_lex.specs.Place.{place_after}
use Rattle.sdl_lex.specs.Token.{IsSlice, InOrder}
use Rattle.parse_expressions.specs.declared.word.PlacedWord.{PlacedWord}
use Rattle.parse_expressions.specs.PlacedWord.{word_of_placed}
use Rattle.parse_expressions.proofs.TurnLemmas.{map_push}
use Rattle.sdl_tree.specs.Words as words

abbrev word_from : List ℕ → Token → Place → words.Word
word_from source t at = words.word_of t.kind (record { text = slice_range source t.start t.end; place = at })

pub read_on : (source : List ℕ) (found new : List PlacedWord) (one : PlacedWord) (at : Place) (rest after : List Token) (t : Token) (all : List words.Word)
    → rest ≡ t ∷ after → new ≡ found ++ one ∷ [] → word_of_placed one ≡ word_from source t at → at ≡ place_after (take t.start source)
    → map word_of_placed found ++ words.words_of source rest ≡ all → map word_of_placed new ++ words.words_of source after ≡ all
read_on source found new one at rest after t all is pushed meant placed e =
    ap (λ n. map word_of_placed n ++ words.words_of source after) pushed
    ∙ ap (λ m. m ++ words.words_of source after) (map_push word_of_placed found one)
    ∙ append_assoc (map word_of_placed found) (word_of_placed one ∷ []) (words.words_of source after)
    ∙ ap (λ w. map word_of_placed found ++ (w ∷ words.words_of source after)) (meant ∙ ap (word_from source t) placed)
    ∙ sym (ap (λ r. map word_of_placed found ++ words.words_of source r) is)
    ∙ e

pub slices_after : (source : List ℕ) (rest after : List Token) (t : Token) → rest ≡ t ∷ after → All (IsSlice source) rest → All (IsSlice source) after
slices_after source rest after t is all = let P : List Token → Type 0 = λ r. All (IsSlice source) r in All-tail (IsSlice source) t after (subst P is all)

pub slice_first : (source : List ℕ) (rest after : List Token) (t : Token) → rest ≡ t ∷ after → All (IsSlice source) rest → IsSlice source t
slice_first source rest after t is all = let P : List Token → Type 0 = λ r. All (IsSlice source) r in All-head (IsSlice source) t after (subst P is all)

-- ---- the order of tokens

-- tokens that stand from an offset on stand from an earlier one on
pub InOrder-earlier : (early late : ℕ) (ts : List Token) (to : ℕ) → early ≤ late → InOrder late ts to → InOrder early ts to
InOrder-earlier early late [] to le h = omega arith
InOrder-earlier early late (t ∷ ts) to le h = (omega arith, h.1, h.2)

InOrder-up : (from : ℕ) (ts : List Token) (to : ℕ) → InOrder from ts to → from ≤ to
InOrder-up from [] to h = h
InOrder-up from (t ∷ ts) to h = let later = InOrder-up t.end ts to h.2 in omega arith

-- the first token has a byte, ends in the text, and the others stand after it
pub opened : (from : ℕ) (all : List Token) (t : Token) (ts : List Token) (to : ℕ) → all ≡ t ∷ ts → InOrder from all to
    → (from ≤ t.start) × (t.start < t.end) × (t.end ≤ to) × InOrder t.end ts to
opened from all t ts to is h =
    let P : List Token → Type 0 = λ xs. InOrder from xs to in
    let o : InOrder from (t ∷ ts) to = subst P is h in
    (o.0, o.1, InOrder-up t.end ts to o.2, o.2)

pub ruleset counting = (common_steps, length-take-le, count_by-le-length, suffix_len-le-length)

pub ruleset ascii = (common_steps, IsUtf8-from_ascii)
