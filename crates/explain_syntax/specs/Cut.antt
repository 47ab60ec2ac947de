-- Which words are left out around a fault.
use Rattle.std.specs.Prelude.{ℕ, ◌+◌, ◌-◌, ◌&&◌, ◌||◌, nat_lt, not, Bool, true, false, List, Option, None, Some, option_and_then, option_map, slice_get, if◌then◌else◌}
use Rattle.parse_expressions.specs.declared.word.PlacedWord.{PlacedWord}
use Rattle.sdl_lex.specs.declared.place.Place.{Place}
use Rattle.sdl_tree.specs.declared.mark.Mark.TheVariants as mark
use Rattle.explain_syntax.specs.Scan.{end_after, has_semicolon, last_lead, next_end, opening_before, semicolon_after, word_at}
use Rattle.explain_syntax.specs.Words.{is_action, is_closed, is_mark, is_mark_in, name_in}
use Rattle.explain_syntax.specs.declared.rests.cut.Cut.{Cut}

-- a statement or a definition, with its semicolon
abbrev pub statement : List PlacedWord → ℕ → Option Cut
statement words lead =
    option_map (λ end. record { from = lead; to = end + 1; stops = false }) (semicolon_after words lead)

-- a statement that ends a transition; `stop` takes its place
abbrev pub ending : List PlacedWord → ℕ → Option Cut
ending words lead = option_map (λ end. record { from = lead; to = end; stops = true }) (semicolon_after words lead)

-- where a stimulus begins with this keyword, or with `priority` before it
abbrev pub stimulus_begin : List PlacedWord → ℕ → ℕ
stimulus_begin words lead =
    if nat_lt 0 lead && is_mark_in mark.Priority (slice_get words (lead - 1)) then lead - 1 else lead

-- where the transition of a stimulus begins whose first semicolon is before this word: after the enabling condition, if an
-- input has one
abbrev pub transition_begin : List PlacedWord → ℕ → ℕ → Option ℕ
transition_begin words lead first =
    if is_mark_in mark.Input (slice_get words lead) && is_mark_in mark.Provided (slice_get words first)
    then option_map (λ end. end + 1) (semicolon_after words first)
    else Some first

-- where after a stimulus the next one begins, or what ends the state
abbrev pub stimulus_end : List PlacedWord → ℕ → Option ℕ
stimulus_end words lead =
    option_and_then (λ end. option_and_then (next_end words) (transition_begin words lead (end + 1)))
    (semicolon_after words lead)

-- an input or a continuous signal, with its transition
abbrev pub stimulus : List PlacedWord → ℕ → Option Cut
stimulus words lead =
    option_map (λ end. record { from = stimulus_begin words lead; to = end; stops = false }) (stimulus_end words lead)

abbrev pub is_named : Option (List ℕ) → Bool
is_named None = false
is_named (Some name) = true

-- whether a transition goes on with this word: with a statement or a label
abbrev pub goes_on : Option PlacedWord → Bool
goes_on None = false
goes_on (Some word) = is_action word || is_named (name_in word)

-- a decision up to this semicolon; if no statement follows it, `stop` takes its place
abbrev pub decision_to : List PlacedWord → ℕ → ℕ → Cut
decision_to words from end =
    if goes_on (slice_get words (end + 1)) then record { from = from; to = end + 1; stops = false }
    else record { from = from; to = end; stops = true }

-- the decision around a word, in whose question or answers that is
abbrev pub decision_around : List PlacedWord → ℕ → Option Cut
decision_around words at =
    option_and_then (λ from. option_and_then (λ end. option_map (decision_to words from) (semicolon_after words end))
    (end_after words from))
    (opening_before words at)

abbrev pub is_input_before : List PlacedWord → ℕ → Option ℕ → Bool
is_input_before words before None = false
is_input_before words before (Some lead) =
    is_mark_in mark.Input (slice_get words lead) && not (has_semicolon words lead before)

-- whether `provided` begins the enabling condition of an input, and no continuous signal
abbrev pub is_condition : List PlacedWord → ℕ → Bool
is_condition words lead = nat_lt 0 lead && is_input_before words (lead - 1) (last_lead words (lead - 1))

abbrev pub is_stimulus : List PlacedWord → ℕ → PlacedWord → Bool
is_stimulus words lead word = is_mark mark.Input word || (is_mark mark.Provided word && not (is_condition words lead))

-- Around a word in the part that begins with this keyword. If a semicolon is between the two, the word is in an answer of
-- a decision.
abbrev pub cut_by : List PlacedWord → ℕ → ℕ → Option PlacedWord → Option Cut
cut_by words at lead None = None
cut_by words at lead (Some word) =
    if is_action word && has_semicolon words lead at then decision_around words at
    else if is_mark mark.NextState word || is_mark mark.Join word then ending words lead
    else if is_mark mark.Decision word || is_mark mark.Else word then decision_around words at
    else if is_stimulus words lead word then stimulus words lead
    else if is_closed word then None
    else statement words lead

abbrev pub cut_at : List PlacedWord → ℕ → Option Cut
cut_at words at = option_and_then (λ lead. cut_by words at lead (slice_get words lead)) (last_lead words at)

-- What is left out around the word at this place: a definition, a statement, a whole decision, or an input with its
-- transition. Nothing, if it is none of these.
abbrev pub cut_around : List PlacedWord → Place → Option Cut
cut_around words place = option_and_then (cut_at words) (word_at place words)
