-- The words of a text, process by process.
use Rattle.std.specs.Prelude.{Bool, not, List, [], ◌∷◌, ◌++◌, if◌then◌else◌}
use Rattle.std.specs.List.{flat_map}
use Rattle.parse_expressions.specs.declared.word.PlacedWord.{PlacedWord}
use Rattle.sdl_tree.specs.declared.mark.Mark.TheVariants as mark
use Rattle.sdl_warnings.specs.Heads.{HeadValue}
use Rattle.sdl_warnings.specs.Missing.{unjoined, unreached, unused_timers, unused_variables}
use Rattle.sdl_warnings.specs.Times.{constant_times}
use Rattle.sdl_warnings.specs.Unset.{unset}
use Rattle.sdl_warnings.specs.Words.{is_mark}
use Rattle.sdl_warnings.specs.declared.suspicion.Warning.{Warning}

-- whether a process goes on with this word
abbrev pub goes_on : PlacedWord → Bool
goes_on word = not (is_mark mark.EndProcess word)

abbrev pub with_first : PlacedWord → List (List PlacedWord) → List (List PlacedWord)
with_first word [] = (word ∷ []) ∷ []
with_first word (part ∷ more) = (word ∷ part) ∷ more

-- the words between the ends of processes
abbrev pub parts : List PlacedWord → List (List PlacedWord)
parts [] = []
parts (word ∷ more) = if goes_on word then with_first word (parts more) else [] ∷ parts more

-- what is suspicious in the states and labels of a process
abbrev pub of_states : List PlacedWord → List Warning
of_states part = unreached part ++ unjoined part

-- what is suspicious in its variables
abbrev pub of_variables : List PlacedWord → List Warning
of_variables part = unused_variables part ++ unset part

-- what is suspicious in its timers
abbrev pub of_timers : List HeadValue → List PlacedWord → List Warning
of_timers constants part = unused_timers part ++ constant_times constants part

abbrev pub of_part : List HeadValue → List PlacedWord → List Warning
of_part constants part = of_states part ++ (of_variables part ++ of_timers constants part)

-- what is suspicious in the processes of a text that defines these constants
abbrev pub of_processes : List HeadValue → List PlacedWord → List Warning
of_processes constants words = flat_map (of_part constants) (parts words)
