-- What a word is.
use Rattle.std.specs.Prelude.{◌==◌, ◌&&◌, ◌||◌, ℕ, Bool, true, false, List, Option, None, Some}
use Rattle.parse_expressions.specs.Reading.{same_mark}
use Rattle.parse_expressions.specs.declared.word.PlacedWord.{PlacedWord}
use Rattle.parse_expressions.specs.declared.word.Word.{Word}
use Rattle.parse_expressions.specs.declared.word.Word.TheVariants.{Fixed, Name, Number, Text, LeftOut}
use Rattle.sdl_lex.specs.declared.place.Place.{Place}
use Rattle.sdl_tree.specs.declared.mark.Mark.{Mark}
use Rattle.sdl_tree.specs.declared.mark.Mark.TheVariants as mark

abbrev pub is_mark_by : Mark → Word → Bool
is_mark_by mark (Fixed found case) = same_mark found mark
is_mark_by mark (Name text) = false
is_mark_by mark (Number value digits) = false
is_mark_by mark (Text text) = false
is_mark_by mark (LeftOut lower text) = false

-- whether a word is this mark
abbrev pub is_mark : Mark → PlacedWord → Bool
is_mark mark word = is_mark_by mark word.word

abbrev pub is_mark_in : Mark → Option PlacedWord → Bool
is_mark_in mark None = false
is_mark_in mark (Some word) = is_mark mark word

abbrev pub name_by : Word → Option (List ℕ)
name_by (Fixed mark case) = None
name_by (Name text) = Some text.now
name_by (Number value digits) = None
name_by (Text text) = None
name_by (LeftOut lower text) = None

-- the name that a word is
abbrev pub name_in : PlacedWord → Option (List ℕ)
name_in word = name_by word.word

abbrev pub is_same_place : Place → Place → Bool
is_same_place one other = (one.line == other.line) && (one.column == other.column)

-- whether a keyword ends a transition, if its statement is there
abbrev pub ends_transition : PlacedWord → Bool
ends_transition word = is_mark mark.NextState word || (is_mark mark.Join word || is_mark mark.Stop word)

-- whether a keyword begins a statement of a transition
abbrev pub is_action : PlacedWord → Bool
is_action word =
    ends_transition word || (is_mark mark.Task word || (is_mark mark.Output word || (is_mark mark.Set word
    || (is_mark mark.Reset word || (is_mark mark.Create word || is_mark mark.Decision word)))))

-- whether a keyword begins what is never left out
abbrev pub is_closed : PlacedWord → Bool
is_closed word =
    is_mark mark.System word || (is_mark mark.Block word || (is_mark mark.Process word || (is_mark mark.Channel word
    || (is_mark mark.From word || (is_mark mark.Connection word || (is_mark mark.State word
    || is_mark mark.Start word))))))

-- whether a keyword begins a definition or a part of one
abbrev pub is_definition : PlacedWord → Bool
is_definition word =
    is_mark mark.Signal word || (is_mark mark.SignalList word || (is_mark mark.SignalSet word
    || (is_mark mark.Synonym word || (is_mark mark.Dcl word || (is_mark mark.Fpar word || (is_mark mark.Timer word
    || is_mark mark.Connect word))))))

abbrev pub is_definition_in : Option PlacedWord → Bool
is_definition_in None = false
is_definition_in (Some word) = is_definition word

-- whether a keyword begins a part of the text
abbrev pub is_lead : PlacedWord → Bool
is_lead word =
    is_action word || (is_closed word || (is_definition word || (is_mark mark.Input word || (is_mark mark.Save word
    || (is_mark mark.Provided word || is_mark mark.Else word)))))

-- whether a keyword begins a stimulus, or ends a state
abbrev pub is_stimulus_or_end : PlacedWord → Bool
is_stimulus_or_end word =
    is_mark mark.Input word || (is_mark mark.Save word || (is_mark mark.Provided word || (is_mark mark.EndState word
    || (is_mark mark.State word || (is_mark mark.Connection word || is_mark mark.EndProcess word)))))
