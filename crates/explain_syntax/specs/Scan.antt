-- Where words are among the words of a text, by their numbers from 0.
use Rattle.std.specs.Prelude.{ℕ, ◌+◌, ◌-◌, ◌^◌, min, ◌==◌, ◌&&◌, nat_le, nat_lt, Bool, false, List, [], ◌∷◌, Option, None, Some, length, reverse, slice_get, take, if◌then◌else◌}
use Rattle.parse_expressions.specs.declared.word.PlacedWord.{PlacedWord}
use Rattle.sdl_lex.specs.declared.place.Place.{Place}
use Rattle.sdl_tree.specs.declared.mark.Mark.{Mark}
use Rattle.sdl_tree.specs.declared.mark.Mark.TheVariants as mark
use Rattle.explain_syntax.specs.Words.{is_lead, is_mark, is_mark_in, is_same_place, is_stimulus_or_end}

-- the first of these words, numbered from there on, that is such a one
abbrev pub first_such : (ℕ → PlacedWord → Bool) → ℕ → List PlacedWord → Option ℕ
first_such is_such at [] = None
first_such is_such at (word ∷ more) = if is_such at word then Some at else first_such is_such (at + 1) more

-- the word at this place
abbrev pub word_at : Place → List PlacedWord → Option ℕ
word_at place words = first_such (λ at word. is_same_place word.place place) 0 words

-- whether a word is this mark, and doesn't come before the one of the number `from`
abbrev pub is_mark_from : Mark → ℕ → ℕ → PlacedWord → Bool
is_mark_from wanted from at word = nat_le from at && is_mark wanted word

-- the first semicolon from a word on
abbrev pub semicolon_after : List PlacedWord → ℕ → Option ℕ
semicolon_after words from = first_such (is_mark_from mark.Semicolon from) 0 words

abbrev pub is_before : ℕ → Option ℕ → Bool
is_before to None = false
is_before to (Some at) = nat_lt at to

-- whether a semicolon is between two words
abbrev pub has_semicolon : List PlacedWord → ℕ → ℕ → Bool
has_semicolon words from to = is_before to (semicolon_after words from)

-- whether a word begins a part of the text, and doesn't come after the one of the number `to`
abbrev pub is_lead_to : ℕ → ℕ → PlacedWord → Bool
is_lead_to to at word = nat_le at to && is_lead word

-- the number of a word that begins a part of the text, and else the one that was found before
abbrev pub later_lead : ℕ → Option ℕ → ℕ → PlacedWord → Option ℕ
later_lead to found at word = if is_lead_to to at word then Some at else found

-- the last of these words, numbered from there on, that begins a part of the text
abbrev pub lead_from : ℕ → Option ℕ → ℕ → List PlacedWord → Option ℕ
lead_from to found at [] = found
lead_from to found at (word ∷ more) = lead_from to (later_lead to found at word) (at + 1) more

-- the last word up to this one that begins a part of the text
abbrev pub last_lead : List PlacedWord → ℕ → Option ℕ
last_lead words to = lead_from to None 0 words

-- Whether a stimulus ends before this word. The priority of a continuous signal has a number, and no input.
abbrev pub ends_stimulus : List PlacedWord → ℕ → PlacedWord → Bool
ends_stimulus words at word =
    if is_mark mark.Priority word then is_mark_in mark.Input (slice_get words (at + 1)) else is_stimulus_or_end word

abbrev pub ends_stimulus_from : List PlacedWord → ℕ → ℕ → PlacedWord → Bool
ends_stimulus_from words from at word = nat_le from at && ends_stimulus words at word

-- the first word from this one on that begins another stimulus, or ends those of a state
abbrev pub next_end : List PlacedWord → ℕ → Option ℕ
next_end words from = first_such (ends_stimulus_from words from) 0 words

-- whether a word is a `decision` that none of so many `enddecision` behind it ends
abbrev pub opens_decision : ℕ → PlacedWord → Bool
opens_decision ended word = (ended == 0) && is_mark mark.Decision word

-- how many `enddecision` end a decision before a word, by how many do so behind it
abbrev pub ended_before : ℕ → PlacedWord → ℕ
ended_before ended word =
    if is_mark mark.EndDecision word then min (ended + 1) (2 ^ 64 - 1)
    else if is_mark mark.Decision word then ended - 1
    else ended

-- of words in the reverse of their order, the first `decision` that none of so many `enddecision` ends
abbrev pub opening_in : ℕ → List PlacedWord → Option ℕ
opening_in ended [] = None
opening_in ended (word ∷ before) =
    if opens_decision ended word then Some (length before) else opening_in (ended_before ended word) before

-- the last `decision` up to a word that no `enddecision` ends before it
abbrev pub opening_before : List PlacedWord → ℕ → Option ℕ
opening_before words at = opening_in 0 (reverse (take (at + 1) words))

-- whether a word ends the outermost of so many decisions that are open
abbrev pub ends_decision : ℕ → ℕ → ℕ → PlacedWord → Bool
ends_decision from depth at word = nat_le depth 1 && is_mark_from mark.EndDecision from at word

-- how many decisions are open after a word
abbrev pub depth_after : ℕ → ℕ → ℕ → PlacedWord → ℕ
depth_after from depth at word =
    if is_mark_from mark.Decision from at word then min (depth + 1) (2 ^ 64 - 1)
    else if is_mark_from mark.EndDecision from at word then depth - 1
    else depth

-- the `enddecision` with which the decision ends that begins at the word of the number `from`
abbrev pub end_from : ℕ → ℕ → ℕ → List PlacedWord → Option ℕ
end_from from depth at [] = None
end_from from depth at (word ∷ more) =
    if ends_decision from depth at word then Some at
    else end_from from (depth_after from depth at word) (at + 1) more

abbrev pub end_after : List PlacedWord → ℕ → Option ℕ
end_after words from = end_from from 0 0 words
