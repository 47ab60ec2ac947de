-- What is left out of a text that has tokens.
use Rattle.std.proofs.Common.{◌≡◌, ◌∙◌, ℕ, List, Option, None, Some, ap, map, option_map, subst, sym}
use Rattle.explain_syntax.specs.Cut.{cut_around}
use Rattle.explain_syntax.specs.Gap.{GapValue, IsGapAt, begin_of, gap_of, names_from, read}
use Rattle.explain_syntax.specs.declared.rests.cut.Cut.{Cut}
use Rattle.parse_expressions.specs.PlacedWord.{word_of_placed}
use Rattle.parse_expressions.specs.declared.word.PlacedWord.{PlacedWord}
use Rattle.sdl_lex.specs.Part.{Lexes}
use Rattle.sdl_lex.specs.declared.place.Place.{Place}
use Rattle.sdl_lex.specs.declared.token.Token.{Token}
use Rattle.sdl_tree.specs.Words.{words_of}

pub none_around : (text : List ℕ) (place : Place) (tokens : List Token) (words : List PlacedWord) → Lexes text tokens
    → map word_of_placed words ≡ words_of text tokens → cut_around words place ≡ None → IsGapAt text place None
none_around text place tokens words lexed meant none =
    subst (λ gap. IsGapAt text place gap) (ap (option_map (gap_of text tokens words place)) none)
    (read tokens words lexed meant)

pub some_around : (text : List ℕ) (place : Place) (tokens : List Token) (words : List PlacedWord) (cut : Cut) (from to : ℕ)
    (names : List (List ℕ)) → Lexes text tokens → map word_of_placed words ≡ words_of text tokens
    → cut_around words place ≡ Some cut → from ≡ begin_of text tokens cut.from → to ≡ begin_of text tokens cut.to
    → names ≡ names_from words place cut 0 words
    → IsGapAt text place (Some (record { from = from; to = to; stops = cut.stops; names = names }))
some_around text place tokens words cut from to names lexed meant some from_is to_is names_are =
    let made : ℕ → ℕ → List (List ℕ) → Option GapValue
    = λ one other all. Some (record { from = one; to = other; stops = cut.stops; names = all }) in
    let begin = begin_of text tokens cut.from in
    let end = begin_of text tokens cut.to in
    subst (λ gap. IsGapAt text place gap)
    (ap (option_map (gap_of text tokens words place)) some
    ∙ ap (λ n. made n end (names_from words place cut 0 words)) (sym from_is)
    ∙ ap (λ n. made from n (names_from words place cut 0 words)) (sym to_is)
    ∙ ap (made from to) (sym names_are))
    (read tokens words lexed meant)
