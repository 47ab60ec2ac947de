-- Joins that lead back to their label over words of which none leads out.
use Rattle.std.specs.Prelude.{ℕ, ◌+◌, ◌-◌, ◌^◌, ◌==◌, ◌&&◌, ◌||◌, Bool, false, min, not, List, [], ◌∷◌, ◌++◌, Option, None, Some, if◌then◌else◌}
use Rattle.parse_expressions.specs.declared.word.PlacedWord.{PlacedWord}
use Rattle.sdl_tree.specs.declared.mark.Mark.TheVariants as mark
use Rattle.sdl_warnings.specs.Words.{is_mark, is_name, name_in}
use Rattle.sdl_warnings.specs.declared.back.Back.{Back}
use Rattle.sdl_warnings.specs.declared.suspicion.Behaviour.TheVariants.{EndlessLoop}
use Rattle.sdl_warnings.specs.declared.suspicion.Oddity.{Oddity}

-- Here words are gone over from the last to the first: `next` is the one that comes after them in the text.

abbrev pub is_next : (PlacedWord → Bool) → Option PlacedWord → Bool
is_next is None = false
is_next is (Some next) = is next

-- whether a word is this label, in no parentheses
abbrev pub is_label : List ℕ → Back → Option PlacedWord → PlacedWord → Bool
is_label text back next word = (back.parentheses == 0) && (is_name text word && is_next (is_mark mark.Colon) next)

-- whether a word ends a transition, or begins one
abbrev pub is_border : PlacedWord → Bool
is_border word =
    is_mark mark.NextState word || (is_mark mark.Stop word || (is_mark mark.Start word || (is_mark mark.Input word
    || (is_mark mark.Save word || (is_mark mark.Provided word || (is_mark mark.State word || (is_mark mark.EndState word
    || (is_mark mark.Connection word || is_mark mark.EndConnection word))))))))

-- whether it begins a decision or its `else`, and so many that are ended come after it
abbrev pub leaves_decision : Back → PlacedWord → Bool
leaves_decision back word = (back.decisions == 0) && (is_mark mark.Decision word || is_mark mark.Else word)

-- whether it is the end of an answer: a parenthesis with a colon
abbrev pub leaves_answer : Back → Option PlacedWord → PlacedWord → Bool
leaves_answer back next word =
    (back.decisions == 0) && ((back.parentheses == 0) && (is_mark mark.Close word && is_next (is_mark mark.Colon) next))

-- whether a `join` leads elsewhere than to this label
abbrev pub leads_elsewhere : List ℕ → Option PlacedWord → PlacedWord → Bool
leads_elsewhere text next word = is_mark mark.Join word && not (is_next (is_name text) next)

-- whether a word leads elsewhere, or those before it are of another transition or another part of a decision
abbrev pub leads_out : List ℕ → Back → Option PlacedWord → PlacedWord → Bool
leads_out text back next word =
    is_border word || (leads_elsewhere text next word || (leaves_decision back word || leaves_answer back next word))

abbrev pub ended_after : ℕ → PlacedWord → ℕ
ended_after decisions word =
    if is_mark mark.EndDecision word then min (decisions + 1) (2 ^ 64 - 1)
    else if is_mark mark.Decision word then decisions - 1
    else decisions

abbrev pub closed_after : ℕ → PlacedWord → ℕ
closed_after parentheses word =
    if is_mark mark.Close word then min (parentheses + 1) (2 ^ 64 - 1)
    else if is_mark mark.Open word then parentheses - 1
    else parentheses

-- over a word
abbrev pub over : Back → PlacedWord → Back
over back word = record {
  decisions = ended_after back.decisions word;
  parentheses = closed_after back.parentheses word;
}

-- from a `join`
abbrev pub beginning : Back
beginning = record { decisions = 0; parentheses = 0 }

-- whether going back leads to this label, in no decision that is ended, before it leads out
abbrev pub is_closed : List ℕ → Back → Option PlacedWord → List PlacedWord → Bool
is_closed text back next [] = false
is_closed text back next (word ∷ more) =
    if is_label text back next word then back.decisions == 0
    else not (leads_out text back next word) && is_closed text (over back word) (Some word) more

abbrev pub leads_back_to : Option (List ℕ) → List PlacedWord → Bool
leads_back_to None before = false
leads_back_to (Some text) before = is_closed text beginning None before

-- whether a `join` between these words leads back
abbrev pub leads_back : List PlacedWord → List PlacedWord → Bool
leads_back before [] = false
leads_back before (label ∷ more) = leads_back_to (name_in label) before

-- a word between these, if it is a `join` that leads back
abbrev pub loop_at : List PlacedWord → PlacedWord → List PlacedWord → List Oddity
loop_at before word more =
    if is_mark mark.Join word && leads_back before more
    then record { behaviour = EndlessLoop; place = word.place } ∷ []
    else []

-- each `join` in these words that leads back; before them are these, the last first
abbrev pub loops : List PlacedWord → List PlacedWord → List Oddity
loops before [] = []
loops before (word ∷ more) = loop_at before word more ++ loops (word ∷ before) more
