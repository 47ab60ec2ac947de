-- When a name that stands for a sort is none's: said of the definitions, and not of what is noted.
use Rattle.std.specs.Prelude.{◌≡◌, List, None}
use Rattle.build_definitions.specs.Parts.{OfParameters, OfSignals, OfSynonyms, OfTimers, OfVariables, Part, Placed, all_sort_faults, parts_in}
use Rattle.build_definitions.specs.Sorts.{sort_at}
use Rattle.build_names.specs.FaultLaws.{Each, In}
use Rattle.build_names.specs.Faults.{Diagnostic, diagnostic_at}
use Rattle.build_names.specs.declared.faults.fault.Rule.TheVariants.{Unknown}
use Rattle.sdl_tree.specs.Tree.{ParameterGroup, SignalDefinition, SynonymDefinition, TimerDefinition, Tree, VariableGroup}
use Rattle.sdl_tree.specs.Words.{Spot}

-- the definition names a sort at this word
pub data NamesSort (name : Spot) : Part → Type 0 where
  of_a_signal :
      (signals : List SignalDefinition) (signal : SignalDefinition) → In signal signals → In name signal.sorts
      → NamesSort name (OfSignals signals)
  of_a_timer :
      (timers : List TimerDefinition) (timer : TimerDefinition) → In timer timers → In name timer.sorts
      → NamesSort name (OfTimers timers)
  of_a_synonym :
      (synonyms : List SynonymDefinition) (synonym : SynonymDefinition) → In synonym synonyms → name ≡ synonym.sort
      → NamesSort name (OfSynonyms synonyms)
  of_parameters : (group : ParameterGroup) → name ≡ group.sort → NamesSort name (OfParameters group)
  of_variables : (group : VariableGroup) → name ≡ group.sort → NamesSort name (OfVariables group)

-- so it does at a word that is no sort's
pub record NamesNoSort (part : Part) (fault : Diagnostic) : Type 0 where
  pub name : Spot
  pub named : NamesSort name part
  pub no_sort : sort_at name ≡ None
  pub told : fault ≡ diagnostic_at Unknown name

-- a definition of the specification does
pub record IsUnknownSort (tree : Tree) (fault : Diagnostic) : Type 0 where
  pub placed : Placed
  pub in_tree : In placed (parts_in tree)
  pub broken : NamesNoSort placed.part fault

-- Each fault of the list is a name that is no sort's, and each such name is in the list.
abbrev pub ListedBroken : Type 0
ListedBroken = (tree : Tree) → Each (IsUnknownSort tree) (all_sort_faults tree)

abbrev pub BrokenListed : Type 0
BrokenListed = (tree : Tree) (fault : Diagnostic) → IsUnknownSort tree fault → In fault (all_sort_faults tree)
