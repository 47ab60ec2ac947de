-- The list of unknown sorts has just the names that stand for a sort and are none's.
use Rattle.std.proofs.Common.{◌≡◌, true, Option, None, Some, is_some, not, refl, sym, subst}
use Rattle.build_definitions.specs.Broken.{IsUnknownSort, NamesNoSort, NamesSort}
use Rattle.build_definitions.specs.Broken as way
use Rattle.build_definitions.specs.Parts.{OfBlock, OfChannel, OfConnection, OfParameters, OfProcess, OfSignalList, OfSignalSet, OfSignals, OfSynonyms, OfTimers, OfVariables, Part, all_sort_faults, parts_in, placed_sort_faults, signal_sort_faults, sort_faults, synonym_sort_faults, timer_sort_faults}
use Rattle.build_definitions.specs.Sorts.{sort_at, unknown_sort}
use Rattle.build_names.proofs.FaultLemmas.{each-if, each-of, in-each, in-if}
use Rattle.build_names.specs.FaultLaws.{Each, In}
use Rattle.build_names.specs.Faults.{Diagnostic, diagnostic_at}
use Rattle.build_names.specs.declared.faults.fault.Rule.TheVariants.{Unknown}
use Rattle.build_expressions.proofs.ListedLaws.{each-weaker}
use Rattle.sdl_system.specs.declared.sort.Sort.{Sort}
use Rattle.sdl_tree.specs.Tree.{Tree}
use Rattle.sdl_tree.specs.Words.{Spot}

-- ---- one name

none-of : (found : Option Sort) → not (is_some found) ≡ true → found ≡ None
none-of None is = refl
none-of (Some sort) is = cc

is-none : (found : Option Sort) → found ≡ None → not (is_some found) ≡ true
is-none None is = refl
is-none (Some sort) is = cc

no-sort : (part : Part) (name : Spot) → NamesSort name part → Each (NamesNoSort part) (unknown_sort name)
no-sort part name named =
    each-if (NamesNoSort part) (not (is_some (sort_at name))) Unknown name (λ is. record {
      name = name;
      named = named;
      no_sort = none-of (sort_at name) is;
      told = refl;
    })

unknown-listed : (name : Spot) → sort_at name ≡ None → In (diagnostic_at Unknown name) (unknown_sort name)
unknown-listed name none = in-if (not (is_some (sort_at name))) Unknown name (is-none (sort_at name) none)

-- ---- one definition

each-unknown : (part : Part) → Each (NamesNoSort part) (sort_faults part)
each-unknown (OfBlock number definition) = tt
each-unknown (OfProcess number definition) = tt
each-unknown (OfChannel definition) = tt
each-unknown (OfConnection definition) = tt
each-unknown (OfSignals signals) =
    each-of (NamesNoSort (OfSignals signals)) signal_sort_faults signals (λ signal at.
    each-of (NamesNoSort (OfSignals signals)) unknown_sort signal.sorts (λ name here.
    no-sort (OfSignals signals) name (way.of_a_signal signals signal at here)))
each-unknown (OfTimers timers) =
    each-of (NamesNoSort (OfTimers timers)) timer_sort_faults timers (λ timer at.
    each-of (NamesNoSort (OfTimers timers)) unknown_sort timer.sorts (λ name here.
    no-sort (OfTimers timers) name (way.of_a_timer timers timer at here)))
each-unknown (OfSignalList definition) = tt
each-unknown (OfSynonyms synonyms) =
    each-of (NamesNoSort (OfSynonyms synonyms)) synonym_sort_faults synonyms (λ synonym at.
    no-sort (OfSynonyms synonyms) synonym.sort (way.of_a_synonym synonyms synonym at refl))
each-unknown (OfSignalSet definition) = tt
each-unknown (OfParameters group) = no-sort (OfParameters group) group.sort (way.of_parameters group refl)
each-unknown (OfVariables group) = no-sort (OfVariables group) group.sort (way.of_variables group refl)

named-listed : (part : Part) (name : Spot) → NamesSort name part → sort_at name ≡ None →
    In (diagnostic_at Unknown name) (sort_faults part)
named-listed part name (way.of_a_signal signals signal at here) none =
    in-each (diagnostic_at Unknown name) signal_sort_faults signals signal at
    (in-each (diagnostic_at Unknown name) unknown_sort signal.sorts name here (unknown-listed name none))
named-listed part name (way.of_a_timer timers timer at here) none =
    in-each (diagnostic_at Unknown name) timer_sort_faults timers timer at
    (in-each (diagnostic_at Unknown name) unknown_sort timer.sorts name here (unknown-listed name none))
named-listed part name (way.of_a_synonym synonyms synonym at same) none =
    in-each (diagnostic_at Unknown name) synonym_sort_faults synonyms synonym at
    (subst (λ sort. In (diagnostic_at Unknown name) (unknown_sort sort)) same (unknown-listed name none))
named-listed part name (way.of_parameters group same) none =
    subst (λ sort. In (diagnostic_at Unknown name) (unknown_sort sort)) same (unknown-listed name none)
named-listed part name (way.of_variables group same) none =
    subst (λ sort. In (diagnostic_at Unknown name) (unknown_sort sort)) same (unknown-listed name none)

-- ---- a specification

pub listed-broken : (tree : Tree) → Each (IsUnknownSort tree) (all_sort_faults tree)
listed-broken tree =
    each-of (IsUnknownSort tree) placed_sort_faults (parts_in tree) (λ placed at.
    each-weaker (NamesNoSort placed.part) (IsUnknownSort tree) (sort_faults placed.part)
    (λ fault is. record { placed = placed; in_tree = at; broken = is }) (each-unknown placed.part))

pub broken-listed : (tree : Tree) (fault : Diagnostic) → IsUnknownSort tree fault → In fault (all_sort_faults tree)
broken-listed tree fault is =
    in-each fault placed_sort_faults (parts_in tree) is.placed is.in_tree
    (subst (λ f. In f (sort_faults is.placed.part)) (sym is.broken.told)
    (named-listed is.placed.part is.broken.name is.broken.named is.broken.no_sort))
