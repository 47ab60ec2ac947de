-- The variables of a process: they stand in its scope alone, and are numbered in the order of the text, formal
-- parameters first.
use Rattle.std.proofs.Common.{◌≡◌, ◌∙◌, ◌++◌, ◌+◌, ◌==◌, ◌≤◌, ℕ, zero, suc, Bool, true, false, List, [], ◌∷◌, Option, None, Some, arith, flat_map, if◌then◌else◌, length, map, refl, ap, slice_get, sym, subst}
use Rattle.std.proofs.lemmas.Bool.{eq-eqb, eqb-true}
use Rattle.std.proofs.lemmas.Grind.{flat_map-append}
use Rattle.std.proofs.lemmas.List.{append_assoc, length-append, length-map}
use Rattle.sdl_build.specs.Headings.{variable_in, variable_of, variable_sort, variables_in}
use Rattle.laws_complete.specs.Complete.{IsThere}
use Rattle.build_definitions.specs.Parts.{Part, OfBlock, OfProcess, OfChannel, OfConnection, OfSignals, OfTimers, OfSignalList, OfSynonyms, OfSignalSet, OfParameters, OfVariables, Placed, groups_of, parameter_part, placed}
use Rattle.build_definitions.specs.Rows.{ProcessRow, ValueRow, after_synonyms, after_variables, group_sorts, process_row, repeated, synonym_values, value_rows, values_of, variable_rows}
use Rattle.build_definitions.specs.Sorts.{sort_at}
use Rattle.build_constants.specs.ConstantTable.{sort_of_entry}
use Rattle.build_names.proofs.FaultLemmas.{each-both}
use Rattle.build_names.specs.FaultLaws.{Each}
use Rattle.build_expressions.specs.declared.scope.Constant.{Constant}
use Rattle.build_expressions.specs.declared.scope.ValueEntry.{ValueEntry}
use Rattle.build_expressions.specs.declared.scope.ValueEntry.TheVariants as entry
use Rattle.laws_sound_system.proofs.WalkLemmas.{IsOwn, IsPlain, Walk, nothing, own, own-rows, parameters_of, plain, plain-rows, process, rows_among, scope_of_process, the_process}
use Rattle.build_names.specs.Spaces.{is_same_scope}
use Rattle.build_names.specs.declared.scopes.scope.ScopeId.{ScopeId}
use Rattle.sdl_system.specs.Behaviour.{VariableMeaning}
use Rattle.sdl_system.specs.declared.sort.Sort.{Sort}
use Rattle.sdl_tree.specs.Tree.{Expr, ParameterGroup, ProcessDefinition, SynonymDefinition}
use Rattle.sdl_tree.specs.Words.{Spot}

-- ---- the sorts of the variables of a process

abbrev pub part_sorts : Part → List (Option Sort)
part_sorts (OfParameters group) = repeated (sort_at group.sort) group.names
part_sorts (OfVariables group) = repeated (sort_at group.sort) group.names
part_sorts (OfBlock number definition) = []
part_sorts (OfProcess number definition) = []
part_sorts (OfChannel definition) = []
part_sorts (OfConnection definition) = []
part_sorts (OfSignals signals) = []
part_sorts (OfTimers timers) = []
part_sorts (OfSignalList definition) = []
part_sorts (OfSynonyms synonyms) = []
part_sorts (OfSignalSet definition) = []

abbrev pub sorts_if : Bool → List (Option Sort) → List (Option Sort)
sorts_if true sorts = sorts
sorts_if false sorts = []

abbrev pub sorts_of : ℕ → Placed → List (Option Sort)
sorts_of k one = sorts_if (is_same_scope one.scope (scope_of_process k)) (part_sorts one.part)

abbrev pub sorts_in : ℕ → List Placed → List (Option Sort)
sorts_in k parts = flat_map (sorts_of k) parts

if-none : (b : Bool) (sorts : List (Option Sort)) → sorts ≡ [] → sorts_if b sorts ≡ []
if-none true sorts is = is
if-none false sorts is = refl

plain-none : (part : Part) → IsPlain part → part_sorts part ≡ []
plain-none (OfBlock number definition) is = refl
plain-none (OfProcess number definition) is = absurd is
plain-none (OfChannel definition) is = refl
plain-none (OfConnection definition) is = refl
plain-none (OfSignals signals) is = refl
plain-none (OfTimers timers) is = absurd is
plain-none (OfSignalList definition) is = refl
plain-none (OfSynonyms synonyms) is = refl
plain-none (OfSignalSet definition) is = refl
plain-none (OfParameters group) is = absurd is
plain-none (OfVariables group) is = absurd is

sorts-plain : (k : ℕ) (place : ScopeId) (part : Part) → IsPlain part → sorts_of k (placed place part) ≡ []
sorts-plain k place part is = if-none (is_same_scope place (scope_of_process k)) (part_sorts part) (plain-none part is)

sorts-process : (k n : ℕ) (place : ScopeId) (definition : ProcessDefinition) →
    sorts_of k (placed place (OfProcess (the_process n) definition)) ≡ []
sorts-process k n place definition = if-none (is_same_scope place (scope_of_process k)) [] refl

sorts-here : (k : ℕ) (part : Part) → sorts_of k (placed (scope_of_process k) part) ≡ part_sorts part
sorts-here k part = ap (λ b. sorts_if b (part_sorts part)) (eq-eqb k k refl)

not-same : (k other : ℕ) (b : Bool) → (other == k) ≡ b → (other ≡ k → ⊥) → b ≡ false
not-same k other true is differ = absurd (differ (eqb-true other k is))
not-same k other false is differ = refl

sorts-other : (k other : ℕ) (part : Part) → (other ≡ k → ⊥) → sorts_of k (placed (scope_of_process other) part) ≡ []
sorts-other k other part differ =
    ap (λ b. sorts_if b (part_sorts part)) (not-same k other (other == k) refl differ)

-- one part more
sorts-more : (k : ℕ) (before : List Placed) (one : Placed) →
    sorts_in k (before ++ one ∷ []) ≡ sorts_in k before ++ sorts_of k one
sorts-more k before one =
    flat_map-append (sorts_of k) before (one ∷ [])
    ∙ ap (λ list. sorts_in k before ++ list) (nil-behind (sorts_of k one))
  where
    nil-behind : (xs : List (Option Sort)) → xs ++ [] ≡ xs
    nil-behind [] = refl
    nil-behind (x ∷ xs) = ap (λ list. x ∷ list) (nil-behind xs)

sorts-without : (k : ℕ) (before : List Placed) (one : Placed) → sorts_of k one ≡ [] →
    sorts_in k (before ++ one ∷ []) ≡ sorts_in k before
sorts-without k before one none =
    flat_map-append (sorts_of k) before (one ∷ []) ∙ ap (λ list. sorts_in k before ++ (list ++ [])) none
    ∙ nil-behind (sorts_in k before)
  where
    nil-behind : (xs : List (Option Sort)) → xs ++ [] ≡ xs
    nil-behind [] = refl
    nil-behind (x ∷ xs) = ap (λ list. x ∷ list) (nil-behind xs)

-- ---- each variable stands in the scope of its process, by its number

abbrev pub IsPlaced : List Placed → ScopeId → ValueEntry → Type 0
IsPlaced all place (entry.Variable number sort) =
    (k : ℕ) × (place ≡ scope_of_process k) × (slice_get (sorts_in k all) number.0 ≡ Some sort)
IsPlaced all place (entry.Synonym number sort) = Unit {0}

abbrev pub IsPlacedRow : List Placed → ValueRow → Type 0
IsPlacedRow all row = IsPlaced all row.scope row.entry

slice-behind : {A : Type 0} (before rest : List A) (x : A) (n : ℕ) → n ≡ length before →
    slice_get (before ++ x ∷ rest) n ≡ Some x
slice-behind [] rest x n is = ap (slice_get (x ∷ rest)) is
slice-behind (y ∷ before) rest x zero is = absurd (omega (arith, is))
slice-behind (y ∷ before) rest x (suc n) is = slice-behind before rest x n (omega (arith, is))

variables-placed : (all : List Placed) (k : ℕ) (sort : Option Sort) (initial : Option Expr) (v : ℕ) (names : List Spot)
    (before behind : List (Option Sort)) → sorts_in k all ≡ before ++ (repeated sort names ++ behind) →
    v ≡ length before → Each (IsPlacedRow all) (variable_rows (scope_of_process k) sort initial v names)
variables-placed all k sort initial v [] before behind is many = tt
variables-placed all k sort initial v (name ∷ names) before behind is many =
    let long = length-append before (sort ∷ []) in (
      (k, refl, ap (λ list. slice_get list v) is ∙ slice-behind before (repeated sort names ++ behind) sort v many),
      variables-placed all k sort initial (v + 1) names (before ++ sort ∷ []) behind
          (is ∙ sym (append_assoc before (sort ∷ []) (repeated sort names ++ behind))) (omega (arith, many, long)),
    )

synonyms-placed : (all : List Placed) (place : ScopeId) (number : ℕ) (synonyms : List SynonymDefinition) →
    Each (IsPlacedRow all) (synonym_values place number synonyms)
synonyms-placed all place number [] = tt
synonyms-placed all place number (synonym ∷ synonyms) = (tt, synonyms-placed all place (number + 1) synonyms)

plain-placed : (all : List Placed) (s v : ℕ) (place : ScopeId) (part : Part) → IsPlain part →
    Each (IsPlacedRow all) (values_of s v place part)
plain-placed all s v place (OfBlock number definition) is = tt
plain-placed all s v place (OfProcess number definition) is = absurd is
plain-placed all s v place (OfChannel definition) is = tt
plain-placed all s v place (OfConnection definition) is = tt
plain-placed all s v place (OfSignals signals) is = tt
plain-placed all s v place (OfTimers timers) is = absurd is
plain-placed all s v place (OfSignalList definition) is = tt
plain-placed all s v place (OfSynonyms synonyms) is = synonyms-placed all place s synonyms
plain-placed all s v place (OfSignalSet definition) is = tt
plain-placed all s v place (OfParameters group) is = absurd is
plain-placed all s v place (OfVariables group) is = absurd is

plain-after : (v : ℕ) (part : Part) → IsPlain part → after_variables v part ≡ v
plain-after v (OfBlock number definition) is = refl
plain-after v (OfProcess number definition) is = absurd is
plain-after v (OfChannel definition) is = refl
plain-after v (OfConnection definition) is = refl
plain-after v (OfSignals signals) is = refl
plain-after v (OfTimers timers) is = absurd is
plain-after v (OfSignalList definition) is = refl
plain-after v (OfSynonyms synonyms) is = refl
plain-after v (OfSignalSet definition) is = refl
plain-after v (OfParameters group) is = absurd is
plain-after v (OfVariables group) is = absurd is

-- what stands in the process of the number, behind so many of its variables
own-placed : (all : List Placed) (s v k : ℕ) (part : Part) (before behind : List (Option Sort)) → IsOwn part →
    sorts_in k all ≡ before ++ (part_sorts part ++ behind) → v ≡ length before →
    Each (IsPlacedRow all) (values_of s v (scope_of_process k) part)
own-placed all s v k (OfParameters group) before behind is same many =
    variables-placed all k (sort_at group.sort) None v group.names before behind same many
own-placed all s v k (OfVariables group) before behind is same many =
    variables-placed all k (sort_at group.sort) group.initial v group.names before behind same many
own-placed all s v k (OfTimers timers) before behind is same many = tt
own-placed all s v k (OfBlock number definition) before behind is same many = absurd is
own-placed all s v k (OfProcess number definition) before behind is same many = absurd is
own-placed all s v k (OfChannel definition) before behind is same many = absurd is
own-placed all s v k (OfConnection definition) before behind is same many = absurd is
own-placed all s v k (OfSignals signals) before behind is same many = absurd is
own-placed all s v k (OfSignalList definition) before behind is same many = absurd is
own-placed all s v k (OfSynonyms synonyms) before behind is same many = absurd is
own-placed all s v k (OfSignalSet definition) before behind is same many = absurd is

repeated-long : (sort : Option Sort) (names : List Spot) → length (repeated sort names) ≡ length names
repeated-long sort names = length-map names (λ (name : Spot). sort)

own-after : (v : ℕ) (part : Part) → IsOwn part → after_variables v part ≡ v + length (part_sorts part)
own-after v (OfParameters group) is = ap (λ n. v + n) (sym (repeated-long (sort_at group.sort) group.names))
own-after v (OfVariables group) is = ap (λ n. v + n) (sym (repeated-long (sort_at group.sort) group.names))
own-after v (OfTimers timers) is = omega arith
own-after v (OfBlock number definition) is = absurd is
own-after v (OfProcess number definition) is = absurd is
own-after v (OfChannel definition) is = absurd is
own-after v (OfConnection definition) is = absurd is
own-after v (OfSignals signals) is = absurd is
own-after v (OfSignalList definition) is = absurd is
own-after v (OfSynonyms synonyms) is = absurd is
own-after v (OfSignalSet definition) is = absurd is

-- behind so many processes: as many variables as stand of the last one, and none of those to come
record IsCounted (n v : ℕ) (before : List Placed) : Type 0 where
  current : (k : ℕ) → n ≡ suc k → v ≡ length (sorts_in k before)
  later : (k : ℕ) → n ≤ k → sorts_in k before ≡ []

counted-plain : (n v v' : ℕ) (before : List Placed) (one : Placed) → v' ≡ v →
    ((k : ℕ) → sorts_of k one ≡ []) → IsCounted n v before → IsCounted n v' (before ++ one ∷ [])
counted-plain n v v' before one same none is = record {
  current = λ k here. same ∙ is.current k here ∙ ap length (sym (sorts-without k before one (none k)));
  later = λ k past. sorts-without k before one (none k) ∙ is.later k past;
}

counted-own : (k v v' : ℕ) (before : List Placed) (part : Part) → v' ≡ v + length (part_sorts part) →
    IsCounted (suc k) v before → IsCounted (suc k) v' (before ++ placed (scope_of_process k) part ∷ [])
counted-own k v v' before part same is = record {
  current = λ other here.
      let e : other ≡ k = omega (arith, here) in
      subst (λ n. v' ≡ length (sorts_in n (before ++ placed (scope_of_process k) part ∷ []))) (sym e) now;
  later = λ other past.
      sorts-without other before (placed (scope_of_process k) part)
      (sorts-other other k part (λ e. let never : ⊥ = omega (arith, past, e) in never)) ∙ is.later other past;
}
  where
    now : v' ≡ length (sorts_in k (before ++ placed (scope_of_process k) part ∷ []))
    now =
        let one = placed (scope_of_process k) part in
        let long = length-append (sorts_in k before) (part_sorts part) in
        let had = is.current k refl in
        let all = ap length (sorts-more k before one ∙ ap (λ list. sorts_in k before ++ list) (sorts-here k part)) in
        omega (arith, same, long, had, all)

counted-process : (n v : ℕ) (before : List Placed) (place : ScopeId) (definition : ProcessDefinition) →
    IsCounted n v before → IsCounted (suc n) 0 (before ++ placed place (OfProcess (the_process n) definition) ∷ [])
counted-process n v before place definition is = record {
  current = λ k here.
      let none = sorts-without k before (placed place (OfProcess (the_process n) definition))
      (sorts-process k n place definition) in
      sym (ap length (none ∙ is.later k (omega (arith, here))));
  later = λ k past.
      sorts-without k before (placed place (OfProcess (the_process n) definition)) (sorts-process k n place definition)
      ∙ is.later k (omega (arith, past));
}

moved : (all before rest : List Placed) (one : Placed) → all ≡ before ++ (one ∷ rest) →
    all ≡ (before ++ one ∷ []) ++ rest
moved all before rest one is = is ∙ sym (append_assoc before (one ∷ []) rest)

-- what stands of a process before a part of it, there, and behind it
parted : (all before rest : List Placed) (k : ℕ) (part : Part) →
    all ≡ before ++ (placed (scope_of_process k) part ∷ rest) →
    sorts_in k all ≡ sorts_in k before ++ (part_sorts part ++ sorts_in k rest)
parted all before rest k part is =
    ap (sorts_in k) is ∙ flat_map-append (sorts_of k) before (placed (scope_of_process k) part ∷ rest)
    ∙ ap (λ list. sorts_in k before ++ (list ++ sorts_in k rest)) (sorts-here k part)

walk-placed : {n m : ℕ} {parts : List Placed} → Walk n parts m → (s v : ℕ) (before all : List Placed) →
    all ≡ before ++ parts → IsCounted n v before → Each (IsPlacedRow all) (value_rows s v parts)
walk-placed (nothing n) s v before all is counted = tt
walk-placed (plain n m place part rest free walk) s v before all is counted =
    let one = placed place part in
    each-both (IsPlacedRow all) (values_of s v place part)
    (value_rows (after_synonyms s part) (after_variables v part) rest) (plain-placed all s v place part free)
    (walk-placed walk (after_synonyms s part) (after_variables v part) (before ++ one ∷ []) all
    (moved all before rest one is)
    (counted-plain n v (after_variables v part) before one (plain-after v part free)
    (λ k. sorts-plain k place part free) counted))
walk-placed (own k m part rest its walk) s v before all is counted =
    let one = placed (scope_of_process k) part in
    each-both (IsPlacedRow all) (values_of s v (scope_of_process k) part)
    (value_rows (after_synonyms s part) (after_variables v part) rest)
    (own-placed all s v k part (sorts_in k before) (sorts_in k rest) its (parted all before rest k part is)
    (counted.current k refl))
    (walk-placed walk (after_synonyms s part) (after_variables v part) (before ++ one ∷ []) all
    (moved all before rest one is)
    (counted-own k v (after_variables v part) before part (own-after v part its) counted))
walk-placed (process n m place definition rest more same walk) s v before all is counted =
    let one = placed place (OfProcess (the_process n) definition) in
    walk-placed walk s 0 (before ++ one ∷ []) all (moved all before rest one is)
    (counted-process n v before place definition counted)

-- so it is with all variables of a specification
pub all-placed : {m : ℕ} (parts : List Placed) → Walk 0 parts m → Each (IsPlacedRow parts) (value_rows 0 0 parts)
all-placed parts walk =
    walk-placed walk 0 0 [] parts refl
    (record { current = λ k is. absurd (let never : ⊥ = omega (arith, is) in never); later = λ k past. refl })

-- ---- formal parameters

parameters-sorts : (n : ℕ) (groups : List ParameterGroup) →
    sorts_in n (flat_map (parameter_part (scope_of_process n)) groups) ≡ flat_map group_sorts groups
parameters-sorts n [] = refl
parameters-sorts n (group ∷ groups) =
    ap (λ list. list ++ sorts_in n (flat_map (parameter_part (scope_of_process n)) groups))
    (sorts-here n (OfParameters group))
    ∙ ap (λ list. group_sorts group ++ list) (parameters-sorts n groups)

-- the first variables of a process are its formal parameters
record BeginsWith (sorts all : List (Option Sort)) : Type 0 where
  more : List (Option Sort)
  is : all ≡ sorts ++ more

begins-also : (sorts all other : List (Option Sort)) → other ≡ all → BeginsWith sorts all → BeginsWith sorts other
begins-also sorts all other same begins = record { more = begins.more; is = same ∙ begins.is }

walk-parameters : {n m : ℕ} {parts : List Placed} → Walk n parts m → (j k : ℕ) (row : ProcessRow) → k ≡ n + j →
    slice_get (rows_among parts) j ≡ Some row → BeginsWith row.sorts (sorts_in k parts)
walk-parameters (nothing n) zero k row is at = absurd (let never : ⊥ = cc in never)
walk-parameters (nothing n) (suc j) k row is at = absurd (let never : ⊥ = cc in never)
walk-parameters (plain n m place part rest free walk) j k row is at =
    begins-also row.sorts (sorts_in k rest) (sorts_in k (placed place part ∷ rest))
    (ap (λ list. list ++ sorts_in k rest) (sorts-plain k place part free))
    (walk-parameters walk j k row is (ap (λ list. slice_get list j) (sym (plain-rows place part rest free)) ∙ at))
walk-parameters (own o m part rest its walk) j k row is at =
    begins-also row.sorts (sorts_in k rest) (sorts_in k (placed (scope_of_process o) part ∷ rest))
    (ap (λ list. list ++ sorts_in k rest)
    (sorts-other k o part (λ e. let never : ⊥ = omega (arith, is, e) in never)))
    (walk-parameters walk j k row is
    (ap (λ list. slice_get list j) (sym (own-rows (scope_of_process o) part rest its)) ∙ at))
walk-parameters (process n m place definition rest more same walk) zero k row is at =
    let number : k ≡ n = omega (arith, is) in
    let row_is : process_row place definition ≡ row = cc in
    let all : sorts_in n rest ≡ flat_map group_sorts (groups_of definition.parameters) ++ sorts_in n more =
    ap (sorts_in n) same ∙ flat_map-append (sorts_of n) (parameters_of n definition) more
    ∙ ap (λ list. list ++ sorts_in n more) (parameters-sorts n (groups_of definition.parameters)) in
    subst (λ (r : ProcessRow).
    BeginsWith r.sorts (sorts_in k (placed place (OfProcess (the_process n) definition) ∷ rest))) row_is
    (record {
      more = sorts_in n more;
      is = ap (λ list. list ++ sorts_in k rest) (sorts-process k n place definition)
          ∙ ap (λ o. sorts_in o rest) number ∙ all;
    })
walk-parameters (process n m place definition rest more same walk) (suc j) k row is at =
    begins-also row.sorts (sorts_in k rest) (sorts_in k (placed place (OfProcess (the_process n) definition) ∷ rest))
    (ap (λ list. list ++ sorts_in k rest) (sorts-process k n place definition))
    (walk-parameters walk j k row (omega (arith, is)) at)

pub begins-with : {m : ℕ} (parts : List Placed) → Walk 0 parts m → (k : ℕ) (row : ProcessRow) →
    slice_get (rows_among parts) k ≡ Some row →
    (more : List (Option Sort)) × (sorts_in k parts ≡ row.sorts ++ more)
begins-with parts walk k row at =
    let begins = walk-parameters walk k k row (let e : k ≡ 0 + k = omega arith in e) at in (begins.more, begins.is)

-- ---- the variables of a heading

abbrev entry_sorts : ValueEntry → List (Option Sort)
entry_sorts (entry.Variable number sort) = sort ∷ []
entry_sorts (entry.Synonym number sort) = []

abbrev row_sorts : ℕ → ValueRow → List (Option Sort)
row_sorts k row = sorts_if (is_same_scope row.scope (scope_of_process k)) (entry_sorts row.entry)

abbrev rows_sorts : ℕ → List ValueRow → List (Option Sort)
rows_sorts k rows = flat_map (row_sorts k) rows

variable-rows : (k : ℕ) (place : ScopeId) (sort : Option Sort) (initial : Option Expr) (v : ℕ) (names : List Spot)
    (b : Bool) → is_same_scope place (scope_of_process k) ≡ b →
    rows_sorts k (variable_rows place sort initial v names) ≡ sorts_if b (repeated sort names)
variable-rows k place sort initial v [] true is = refl
variable-rows k place sort initial v [] false is = refl
variable-rows k place sort initial v (name ∷ names) true is =
    ap (λ b. sorts_if b (sort ∷ []) ++ rows_sorts k (variable_rows place sort initial (v + 1) names)) is
    ∙ ap (λ list. sort ∷ list) (variable-rows k place sort initial (v + 1) names true is)
variable-rows k place sort initial v (name ∷ names) false is =
    ap (λ b. sorts_if b (sort ∷ []) ++ rows_sorts k (variable_rows place sort initial (v + 1) names)) is
    ∙ variable-rows k place sort initial (v + 1) names false is

synonym-rows : (k : ℕ) (place : ScopeId) (number : ℕ) (synonyms : List SynonymDefinition) →
    rows_sorts k (synonym_values place number synonyms) ≡ []
synonym-rows k place number [] = refl
synonym-rows k place number (synonym ∷ synonyms) =
    ap (λ list. list ++ rows_sorts k (synonym_values place (number + 1) synonyms))
    (if-none (is_same_scope place (scope_of_process k)) [] refl)
    ∙ synonym-rows k place (number + 1) synonyms

none-of : (k : ℕ) (place : ScopeId) → [] ≡ sorts_if (is_same_scope place (scope_of_process k)) []
none-of k place = sym (if-none (is_same_scope place (scope_of_process k)) [] refl)

part-rows : (k s v : ℕ) (place : ScopeId) (part : Part) →
    rows_sorts k (values_of s v place part) ≡ sorts_of k (placed place part)
part-rows k s v place (OfParameters group) =
    variable-rows k place (sort_at group.sort) None v group.names (is_same_scope place (scope_of_process k)) refl
part-rows k s v place (OfVariables group) =
    variable-rows k place (sort_at group.sort) group.initial v group.names (is_same_scope place (scope_of_process k))
    refl
part-rows k s v place (OfBlock number definition) = none-of k place
part-rows k s v place (OfProcess number definition) = none-of k place
part-rows k s v place (OfChannel definition) = none-of k place
part-rows k s v place (OfConnection definition) = none-of k place
part-rows k s v place (OfSignals signals) = none-of k place
part-rows k s v place (OfTimers timers) = none-of k place
part-rows k s v place (OfSignalList definition) = none-of k place
part-rows k s v place (OfSynonyms synonyms) = synonym-rows k place s synonyms ∙ none-of k place
part-rows k s v place (OfSignalSet definition) = none-of k place

value-rows : (k s v : ℕ) (parts : List Placed) → rows_sorts k (value_rows s v parts) ≡ sorts_in k parts
value-rows k s v [] = refl
value-rows k s v (one ∷ parts) =
    flat_map-append (row_sorts k) (values_of s v one.scope one.part)
    (value_rows (after_synonyms s one.part) (after_variables v one.part) parts)
    ∙ ap (λ list. list ++ rows_sorts k (value_rows (after_synonyms s one.part) (after_variables v one.part) parts))
    (part-rows k s v one.scope one.part)
    ∙ ap (λ list. sorts_of k one ++ list) (value-rows k (after_synonyms s one.part) (after_variables v one.part) parts)

abbrev pub sort_meant : VariableMeaning → Option Sort
sort_meant variable = Some variable.sort

map-both : (xs ys : List VariableMeaning) → map sort_meant (xs ++ ys) ≡ map sort_meant xs ++ map sort_meant ys
map-both [] ys = refl
map-both (x ∷ xs) ys = ap (λ list. sort_meant x ∷ list) (map-both xs ys)

entry-variable : (row : ValueRow) (one : ValueEntry) (initial : Option Constant) → IsThere (sort_of_entry one) →
    map sort_meant (variable_of row initial (variable_sort one)) ≡ entry_sorts one
entry-variable row (entry.Variable number None) initial there = absurd there
entry-variable row (entry.Variable number (Some sort)) initial there = refl
entry-variable row (entry.Synonym number sort) initial there = refl

variable-if : (b : Bool) (list : List VariableMeaning) (sorts : List (Option Sort)) → map sort_meant list ≡ sorts →
    map sort_meant (if b then list else []) ≡ sorts_if b sorts
variable-if true list sorts is = is
variable-if false list sorts is = refl

heading-sorts : (k : ℕ) (f : ValueRow → Option Constant) (rows : List ValueRow) →
    Each (λ (row : ValueRow). IsThere (sort_of_entry row.entry)) rows →
    map sort_meant (variables_in (the_process k) rows (map f rows)) ≡ rows_sorts k rows
heading-sorts k f [] there = refl
heading-sorts k f (row ∷ rows) there =
    map-both (variable_in (the_process k) row (f row)) (variables_in (the_process k) rows (map f rows))
    ∙ ap (λ list. list ++ map sort_meant (variables_in (the_process k) rows (map f rows)))
    (variable-if (is_same_scope row.scope (scope_of_process k))
    (variable_of row (f row) (variable_sort row.entry)) (entry_sorts row.entry)
    (entry-variable row row.entry (f row) there.0))
    ∙ ap (λ list. row_sorts k row ++ list) (heading-sorts k f rows there.1)

-- the variables that a heading has are those that stand in the process
pub heading-variables : (k : ℕ) (f : ValueRow → Option Constant) (parts : List Placed) →
    Each (λ (row : ValueRow). IsThere (sort_of_entry row.entry)) (value_rows 0 0 parts) →
    map sort_meant (variables_in (the_process k) (value_rows 0 0 parts) (map f (value_rows 0 0 parts)))
    ≡ sorts_in k parts
heading-variables k f parts there = heading-sorts k f (value_rows 0 0 parts) there ∙ value-rows k 0 0 parts
