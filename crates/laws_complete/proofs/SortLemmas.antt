-- Where no sort is unknown, each definition has its sorts.
use Rattle.std.proofs.Common.{◌≡◌, ◌++◌, ℕ, ◌+◌, List, [], ◌∷◌, Option, None, Some, flat_map, is_some, map, not, refl, subst, sym, inl, inr}
use Rattle.laws_complete.proofs.EmptyLemmas.{left-empty, none-empty, right-empty}
use Rattle.laws_complete.proofs.RunLemmas.{Run, nothing, other, process, the_process, tree-run}
use Rattle.laws_complete.specs.Complete.{AreThere, IsThere}
use Rattle.laws_complete.specs.Names.{HaveSorts, rows_of_tree}
use Rattle.build_definitions.specs.Parts.{Part, OfBlock, OfProcess, OfChannel, OfConnection, OfSignals, OfTimers, OfSignalList, OfSynonyms, OfSignalSet, OfParameters, OfVariables, Placed, all_sort_faults, groups_of, parts_in, placed, placed_sort_faults, signal_sort_faults, sort_faults, synonym_sort_faults, timer_sort_faults}
use Rattle.build_definitions.specs.Rows.{ProcessRow, SignalRow, SynonymRow, ValueRow, after_synonyms, after_variables, group_sorts, placed_processes, placed_signals, placed_synonyms, repeated, signal_row, signals_of, synonym_row, synonym_values, synonyms_of, timer_row, value_rows, values_of, variable_rows}
use Rattle.build_definitions.specs.Sorts.{sort_at, unknown_sort, unknown_sorts}
use Rattle.build_constants.specs.ConstantTable.{sort_of_entry}
use Rattle.build_names.proofs.FaultLemmas.{each-both, each-of}
use Rattle.build_names.specs.FaultLaws.{Each, In}
use Rattle.build_names.specs.Faults.{fault_if}
use Rattle.build_names.specs.declared.faults.fault.Rule.TheVariants.{Unknown}
use Rattle.build_names.specs.declared.scopes.scope.ScopeId.{ScopeId}
use Rattle.build_names.specs.declared.scopes.scope.ScopeId.TheVariants as scope
use Rattle.sdl_system.specs.declared.sort.Sort.{Sort}
use Rattle.sdl_tree.specs.Tree.{Expr, ParameterGroup, SignalDefinition, SynonymDefinition, TimerDefinition, Tree}
use Rattle.sdl_tree.specs.Words.{Spot}

known-there : (sort : Option Sort) (name : Spot) → fault_if (not (is_some sort)) Unknown name ≡ [] → IsThere sort
known-there None name none = cc
known-there (Some sort) name none = tt

sort-there : (name : Spot) → unknown_sort name ≡ [] → IsThere (sort_at name)
sort-there name none = known-there (sort_at name) name none

sorts-there : (names : List Spot) → unknown_sorts names ≡ [] → AreThere (map sort_at names)
sorts-there [] none = tt
sorts-there (name ∷ names) none = (
  sort-there name (left-empty (unknown_sort name) (unknown_sorts names) none),
  sorts-there names (right-empty (unknown_sort name) (unknown_sorts names) none),
)

-- ---- signals and timers

abbrev SignalThere : SignalRow → Type 0
SignalThere row = AreThere row.sorts

signal-rows : (place : ScopeId) (signals : List SignalDefinition) → flat_map signal_sort_faults signals ≡ [] →
    Each SignalThere (map (signal_row place) signals)
signal-rows place [] none = tt
signal-rows place (signal ∷ signals) none =
    let rest = flat_map signal_sort_faults signals in (
      sorts-there signal.sorts (left-empty (signal_sort_faults signal) rest none),
      signal-rows place signals (right-empty (signal_sort_faults signal) rest none),
    )

timer-rows : (place : ScopeId) (timers : List TimerDefinition) → flat_map timer_sort_faults timers ≡ [] →
    Each SignalThere (map (timer_row place) timers)
timer-rows place [] none = tt
timer-rows place (timer ∷ timers) none =
    let rest = flat_map timer_sort_faults timers in (
      sorts-there timer.sorts (left-empty (timer_sort_faults timer) rest none),
      timer-rows place timers (right-empty (timer_sort_faults timer) rest none),
    )

part-signals : (place : ScopeId) (part : Part) → sort_faults part ≡ [] → Each SignalThere (signals_of place part)
part-signals place (OfBlock number definition) none = tt
part-signals place (OfProcess number definition) none = tt
part-signals place (OfChannel definition) none = tt
part-signals place (OfConnection definition) none = tt
part-signals place (OfSignals signals) none = signal-rows place signals none
part-signals place (OfTimers timers) none = timer-rows place timers none
part-signals place (OfSignalList definition) none = tt
part-signals place (OfSynonyms synonyms) none = tt
part-signals place (OfSignalSet definition) none = tt
part-signals place (OfParameters group) none = tt
part-signals place (OfVariables group) none = tt

-- ---- synonyms

abbrev SynonymThere : SynonymRow → Type 0
SynonymThere row = IsThere row.sort

synonym-rows : (place : ScopeId) (synonyms : List SynonymDefinition) → flat_map synonym_sort_faults synonyms ≡ [] →
    Each SynonymThere (map (synonym_row place) synonyms)
synonym-rows place [] none = tt
synonym-rows place (synonym ∷ synonyms) none =
    let rest = flat_map synonym_sort_faults synonyms in (
      sort-there synonym.sort (left-empty (synonym_sort_faults synonym) rest none),
      synonym-rows place synonyms (right-empty (synonym_sort_faults synonym) rest none),
    )

part-synonyms : (place : ScopeId) (part : Part) → sort_faults part ≡ [] → Each SynonymThere (synonyms_of place part)
part-synonyms place (OfBlock number definition) none = tt
part-synonyms place (OfProcess number definition) none = tt
part-synonyms place (OfChannel definition) none = tt
part-synonyms place (OfConnection definition) none = tt
part-synonyms place (OfSignals signals) none = tt
part-synonyms place (OfTimers timers) none = tt
part-synonyms place (OfSignalList definition) none = tt
part-synonyms place (OfSynonyms synonyms) none = synonym-rows place synonyms none
part-synonyms place (OfSignalSet definition) none = tt
part-synonyms place (OfParameters group) none = tt
part-synonyms place (OfVariables group) none = tt

-- ---- variables, formal parameters and synonyms

abbrev ValueThere : ValueRow → Type 0
ValueThere row = IsThere (sort_of_entry row.entry)

variables-there : (place : ScopeId) (sort : Option Sort) (initial : Option Expr) (number : ℕ) (names : List Spot) →
    IsThere sort → Each ValueThere (variable_rows place sort initial number names)
variables-there place sort initial number [] there = tt
variables-there place sort initial number (name ∷ names) there =
    (there, variables-there place sort initial (number + 1) names there)

synonyms-there : (place : ScopeId) (number : ℕ) (synonyms : List SynonymDefinition) →
    flat_map synonym_sort_faults synonyms ≡ [] → Each ValueThere (synonym_values place number synonyms)
synonyms-there place number [] none = tt
synonyms-there place number (synonym ∷ synonyms) none =
    let rest = flat_map synonym_sort_faults synonyms in (
      sort-there synonym.sort (left-empty (synonym_sort_faults synonym) rest none),
      synonyms-there place (number + 1) synonyms (right-empty (synonym_sort_faults synonym) rest none),
    )

part-values : (s v : ℕ) (place : ScopeId) (part : Part) → sort_faults part ≡ [] →
    Each ValueThere (values_of s v place part)
part-values s v place (OfBlock number definition) none = tt
part-values s v place (OfProcess number definition) none = tt
part-values s v place (OfChannel definition) none = tt
part-values s v place (OfConnection definition) none = tt
part-values s v place (OfSignals signals) none = tt
part-values s v place (OfTimers timers) none = tt
part-values s v place (OfSignalList definition) none = tt
part-values s v place (OfSynonyms synonyms) none = synonyms-there place s synonyms none
part-values s v place (OfSignalSet definition) none = tt
part-values s v place (OfParameters group) none =
    variables-there place (sort_at group.sort) None v group.names (sort-there group.sort none)
part-values s v place (OfVariables group) none =
    variables-there place (sort_at group.sort) group.initial v group.names (sort-there group.sort none)

values-there : (s v : ℕ) (parts : List Placed) → flat_map placed_sort_faults parts ≡ [] →
    Each ValueThere (value_rows s v parts)
values-there s v [] none = tt
values-there s v (one ∷ parts) none =
    let rest = flat_map placed_sort_faults parts in
    let next_s = after_synonyms s one.part in
    let next_v = after_variables v one.part in
    each-both ValueThere (values_of s v one.scope one.part) (value_rows next_s next_v parts)
    (part-values s v one.scope one.part (left-empty (placed_sort_faults one) rest none))
    (values-there next_s next_v parts (right-empty (placed_sort_faults one) rest none))

-- ---- formal parameters

abbrev ProcessThere : ProcessRow → Type 0
ProcessThere row = AreThere row.sorts

are-both : {T : Type 0} (xs ys : List (Option T)) → AreThere xs → AreThere ys → AreThere (xs ++ ys)
are-both [] ys left right = right
are-both (x ∷ xs) ys left right = (left.0, are-both xs ys left.1 right)

repeated-there : (sort : Option Sort) (names : List Spot) → IsThere sort → AreThere (repeated sort names)
repeated-there sort [] there = tt
repeated-there sort (name ∷ names) there = (there, repeated-there sort names there)

groups-there : (groups : List ParameterGroup) →
    ((group : ParameterGroup) → In group groups → unknown_sort group.sort ≡ []) → AreThere (flat_map group_sorts groups)
groups-there [] none = tt
groups-there (group ∷ groups) none =
    are-both (group_sorts group) (flat_map group_sorts groups)
    (repeated-there (sort_at group.sort) group.names (sort-there group.sort (none group (inl refl))))
    (groups-there groups (λ g at. none g (inr at)))

processes-there : {n m : ℕ} {parts : List Placed} → Run n parts m → flat_map placed_sort_faults parts ≡ [] →
    Each ProcessThere (flat_map placed_processes parts)
processes-there (nothing n) none = tt
processes-there (other n m one rest is run) none =
    each-both ProcessThere (placed_processes one) (flat_map placed_processes rest)
    (subst (Each ProcessThere) (sym is.process) tt)
    (processes-there run (right-empty (placed_sort_faults one) (flat_map placed_sort_faults rest) none))
processes-there (process n m place definition rest groups run) none = (
  groups-there (groups_of definition.parameters)
      (λ group at. none-empty placed_sort_faults rest none
      (placed (scope.Process (the_process n)) (OfParameters group)) (groups group at)),
  processes-there run none,
)

-- ---- all of them

pub sorts-given : (tree : Tree) → all_sort_faults tree ≡ [] → HaveSorts (rows_of_tree tree)
sorts-given tree none =
    let parts = parts_in tree in
    record {
      signals =
          each-of SignalThere placed_signals parts
          (λ one at. part-signals one.scope one.part (none-empty placed_sort_faults parts none one at));
      processes = processes-there (tree-run tree) none;
      synonyms =
          each-of SynonymThere placed_synonyms parts
          (λ one at. part-synonyms one.scope one.part (none-empty placed_sort_faults parts none one at));
      values = values-there 0 0 parts none;
    }
