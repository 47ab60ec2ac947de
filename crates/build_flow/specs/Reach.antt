-- Which terminators the start of a process comes to, by any branch and join.
use Rattle.std.specs.Prelude.{◌≡◌, ◌==◌, ◌&&◌, ◌||◌, ℕ, Bool, true, false, List, Option, None, Some, flat_map}
use Rattle.sdl_lex.specs.declared.place.Place.{Place}
use Rattle.build_names.specs.FaultLaws.{In}
use Rattle.build_names.specs.Names.{first_of}
use Rattle.sdl_tree.specs.Tree.{Join, Terminator}
use Rattle.sdl_tree.specs.Words.{Spot}
use Rattle.sdl_tree.specs.declared.name.Spelling.{Spelling}
use Rattle.build_flow.specs.Beginnings.{Beginning}
use Rattle.build_flow.specs.Mentions.{beginning_mentions, is_named, label_entries}
use Rattle.build_flow.specs.Met.{transition_met}
use Rattle.build_flow.specs.Passing.{is_entered}
use Rattle.build_flow.specs.Paths.{AtFirst, AtLabel, ComesTo}

-- the labels of a process with these beginnings
abbrev pub labels_in : List Beginning → List (List ℕ × Place)
labels_in all = flat_map label_entries (flat_map beginning_mentions all)

abbrev pub is_place : Place → Option Place → Bool
is_place place None = false
is_place place (Some other) = (place.line == other.line) && (place.column == other.column)

-- whether the label is the first of its name: the one to which joins on the name lead
abbrev pub is_first : List (List ℕ × Place) → Spot → Bool
is_first labels label = is_place label.place (first_of labels label.text)

-- ---- said of paths

-- a path from the label comes to the terminator
pub data LeadsOn (all : List Beginning) (label : Spot) (terminator : Terminator) : Type 0 where
  -- the label stands before a statement of this transition
  of_statement :
      (beginning : Beginning) → In beginning all → ComesTo terminator (AtLabel label) beginning.transition
      → LeadsOn all label terminator
  -- it is the one of this connection
  of_connection :
      (beginning : Beginning) → In beginning all → beginning.label ≡ Some label
      → ComesTo terminator AtFirst beginning.transition → LeadsOn all label terminator

-- a path from the start comes to the terminator, over any joins
pub data StartReaches (all : List Beginning) : Terminator → Type 0 where
  at_once :
      (terminator : Terminator) (start : Beginning) → In start all → start.is_start ≡ true
      → ComesTo terminator AtFirst start.transition → StartReaches all terminator
  by_join :
      (terminator : Terminator) (word : Spelling) (name label : Spot) → StartReaches all (Join word name)
      → name.text ≡ label.text → is_first (labels_in all) label ≡ true → LeadsOn all label terminator
      → StartReaches all terminator

-- each of the names is that of a join that the start reaches
abbrev pub EachReached : List Beginning → List (List ℕ) → Type 0
EachReached all names = (text : List ℕ) → is_named names text ≡ true →
    (word : Spelling) × (name : Spot) × (name.text ≡ text) × StartReaches all (Join word name)

-- and each such name is one of them
pub record AreReached (all : List Beginning) (names : List (List ℕ)) : Type 0 where
  pub each : EachReached all names
  pub reached : (word : Spelling) (name : Spot) → StartReaches all (Join word name) → is_named names name.text ≡ true

-- ---- listed

-- whether joins with one of the names lead to the label
abbrev pub leads : List (List ℕ × Place) → List (List ℕ) → Spot → Bool
leads labels names label = is_first labels label && is_named names label.text

abbrev pub beginning_met : (Spot → Bool) → Beginning → List Terminator
beginning_met enters beginning =
    transition_met enters beginning.transition (beginning.is_start || is_entered enters beginning.label)

-- the terminators to which paths from the start and from the labels with one of the names come, in the order of the
-- text
abbrev pub met_from : List Beginning → List (List ℕ) → List Terminator
met_from all names = flat_map (beginning_met (leads (labels_in all) names)) all
