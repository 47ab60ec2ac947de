-- What is suspicious in a specification.
use Rattle.std.specs.Prelude.{◌==◌, ◌&&◌, ◌||◌, Bool, List, [], ◌++◌, IsPermutation, map, nat_lt}
use Rattle.std.specs.List.Sorted.{IsSortedBy}
use Rattle.parse_expressions.specs.declared.word.PlacedWord.{PlacedWord}
use Rattle.sdl_lex.specs.declared.place.Place.{Place}
use Rattle.sdl_tree.specs.Tree.{Tree}
use Rattle.sdl_tree.specs.declared.mark.Mark.TheVariants as mark
use Rattle.sdl_warnings.specs.Decisions.{of_decisions}
use Rattle.sdl_warnings.specs.Defined.{defined}
use Rattle.sdl_warnings.specs.Heads.{heads}
use Rattle.sdl_warnings.specs.Loops.{loops}
use Rattle.sdl_warnings.specs.Processes.{of_processes}
use Rattle.sdl_warnings.specs.Signals.{of_signals}
use Rattle.sdl_warnings.specs.Unused.{unused}
use Rattle.sdl_warnings.specs.declared.suspicion.Oddity.{Oddity}
use Rattle.sdl_warnings.specs.declared.suspicion.Suspicion.TheVariants.{Behaviour}
use Rattle.sdl_warnings.specs.declared.suspicion.Warning.{Warning}

abbrev pub warning_of : Oddity → Warning
warning_of oddity = record { suspicion = Behaviour oddity.behaviour; place = oddity.place }

-- what is suspicious in what processes do
abbrev pub oddities : Tree → List PlacedWord → List Oddity
oddities tree words = of_signals tree words ++ (loops [] words ++ of_decisions words)

-- The signals, signal lists and synonyms that nobody uses, what is suspicious in the states, labels, variables and timers of
-- each process, and what is suspicious in what processes do.
abbrev pub gathered : Tree → List PlacedWord → List Warning
gathered tree words =
    unused words (defined tree)
    ++ (of_processes (heads mark.Synonym words) words ++ map warning_of (oddities tree words))

-- whether a place is before another one
abbrev pub is_before : Place → Place → Bool
is_before one other = nat_lt one.line other.line || ((one.line == other.line) && nat_lt one.column other.column)

-- the same in the order of the text
pub record AreWarnings (tree : Tree) (words : List PlacedWord) (found : List Warning) : Type 0 where
  pub all : IsPermutation (gathered tree words) found
  pub ordered : IsSortedBy (λ (one other : Warning). is_before one.place other.place) found
