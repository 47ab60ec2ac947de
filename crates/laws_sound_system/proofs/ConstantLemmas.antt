-- The constants of synonyms are of their sorts.
use Rattle.std.proofs.Common.{◌≡◌, ◌∙◌, ◌++◌, ◌+◌, ℕ, zero, suc, Bool, true, false, List, [], ◌∷◌, Option, None, Some, IfSome, arith, flat_map, if◌then◌else◌, is_none, length, map, option_and_then, refl, ap, slice_get, sym, subst, inl, inr}
use Rattle.std.proofs.lemmas.List.{append_assoc, length-append, length-map}
use Rattle.std.proofs.lemmas.Option.{unwrap_or-slice_get}
use Rattle.std.specs.List.{AllZip}
use Rattle.std.specs.Option.{unwrap_or}
use Rattle.port_model.specs.declared.values.value.Value.{Value}
use Rattle.laws_complete.proofs.EmptyLemmas.{left-empty, none-empty, right-empty}
use Rattle.laws_complete.specs.Names.{IsFaultless, rows_of_tree}
use Rattle.build_definitions.specs.Parts.{Part, OfBlock, OfProcess, OfChannel, OfConnection, OfSignals, OfTimers, OfSignalList, OfSynonyms, OfSignalSet, OfParameters, OfVariables, Placed}
use Rattle.build_definitions.specs.Rows.{SynonymRow, ValueRow, after_synonyms, after_variables, placed_synonyms, synonym_row, synonym_values, synonyms_of, value_rows, values_of, variable_rows}
use Rattle.build_constants.proofs.SynonymLemmas.{faults-of}
use Rattle.build_constants.specs.Synonyms.{IsSynonym, faults_in_row}
use Rattle.build_definitions.specs.declared.symbols.symbol_table.SymbolTable.{SymbolTable}
use Rattle.build_names.proofs.FaultLemmas.{each-both}
use Rattle.build_names.specs.FaultLaws.{Each, In}
use Rattle.build_names.specs.Faults.{fault_if}
use Rattle.build_names.specs.declared.faults.fault.Rule.TheVariants.{BadCount}
use Rattle.build_expressions.specs.Constants.{constant_faults, constant_in, counted, counted_faults, is_miscounted, value_of, with_value}
use Rattle.build_expressions.specs.Misused.{place_faults}
use Rattle.build_expressions.specs.Scope.{Scope, constant_at}
use Rattle.build_expressions.specs.Typing.{Typed, taken_in, typed_in}
use Rattle.build_expressions.specs.Words.{first_word}
use Rattle.build_expressions.specs.declared.context.Context.TheVariants as context
use Rattle.build_expressions.specs.declared.scope.Constant.{Constant}
use Rattle.build_expressions.specs.declared.scope.Constant.TheVariants as constants
use Rattle.build_expressions.specs.declared.scope.SynonymId.{SynonymId}
use Rattle.build_expressions.specs.declared.scope.ValueEntry.{ValueEntry}
use Rattle.build_expressions.specs.declared.scope.ValueEntry.TheVariants as entry
use Rattle.laws_sound_runs.proofs.ValueLemmas.{sort-kind}
use Rattle.laws_sound_runs.specs.Scopes.{IsSoundConstant}
use Rattle.build_names.specs.declared.scopes.scope.ScopeId.{ScopeId}
use Rattle.build_constants.specs.SettledSynonyms.{Settles, constant_of, scope_with, synonym_faults}
use Rattle.build_constants.specs.declared.synonyms.synonym.Synonym.{Synonym}
use Rattle.sdl_system.proofs.OperationLemmas.{takes_sort}
use Rattle.sdl_system.specs.Sort.{as_sort, has_sort}
use Rattle.sdl_system.specs.declared.sort.Sort.{Sort}
use Rattle.sdl_tree.specs.Tree.{Expr, SynonymDefinition, Tree}
use Rattle.sdl_tree.specs.Views.{expr_value}
use Rattle.sdl_tree.specs.Words.{Spot}

-- ---- a constant at a place of a sort

the-value : (v w : Value) → constants.Value v ≡ constants.Value w → v ≡ w
the-value v w same = cc

sorted-there : (sort : Sort) (w v : Value) (there : Option Value) → as_sort sort w ≡ there →
    is_none there ≡ false → IfSome there (λ t. has_sort sort t ≡ true) → unwrap_or there w ≡ v → has_sort sort v ≡ true
sorted-there sort w v None is known has same = absurd (let never : ⊥ = cc in never)
sorted-there sort w v (Some there) is known has same = subst (λ (x : Value). has_sort sort x ≡ true) same has

not-noted : (b : Bool) (word : Spot) → fault_if b BadCount word ≡ [] → b ≡ false
not-noted true word is = absurd (let never : ⊥ = cc in never)
not-noted false word is = refl

valued-sorted : (sort : Sort) (word : Spot) (refused : Bool) (found : Option Value) (v : Value) →
    (if refused then constants.Refused else with_value (Some sort) found) ≡ constants.Value v →
    (if refused then [] else fault_if (is_miscounted (Some sort) found) BadCount word) ≡ [] → has_sort sort v ≡ true
valued-sorted sort word true found v is none = absurd (let never : ⊥ = cc in never)
valued-sorted sort word false None v is none = absurd (let never : ⊥ = cc in never)
valued-sorted sort word false (Some w) v is none =
    sorted-there sort w v (as_sort sort w) refl (not-noted (is_none (as_sort sort w)) word none) (takes_sort sort w)
    (the-value (unwrap_or (as_sort sort w) w) v is)

counted-sorted : (sort : Sort) (word : Spot) (found : Option Typed) (v : Value) →
    counted (Some sort) found ≡ constants.Value v → counted_faults (Some sort) word found ≡ [] → has_sort sort v ≡ true
counted-sorted sort word None v is none = absurd (let never : ⊥ = cc in never)
counted-sorted sort word (Some typed) v is none =
    valued-sorted sort word typed.is_refused (option_and_then value_of typed.term) v is none

-- where no rule is broken in it, it has the sort
pub constant-sorted : (scope : Scope) (sort : Sort) (expression : Expr) (v : Value) →
    constant_in scope (Some sort) expression ≡ constants.Value v → constant_faults scope (Some sort) expression ≡ [] →
    has_sort sort v ≡ true
constant-sorted scope sort expression v is none =
    let found = taken_in (Some sort) (typed_in context.Constant scope expression) in
    counted-sorted sort (first_word expression) found v is
    (right-empty (place_faults context.Constant scope (Some sort) expression)
    (counted_faults (Some sort) (first_word expression) found) none)

-- ---- the synonym of a number

-- what a name stands for that is a synonym is one of these, with its sort
abbrev pub IsListed : List SynonymRow → ValueEntry → Type 0
IsListed all (entry.Variable number sort) = Unit {0}
IsListed all (entry.Synonym number sort) =
    (row : SynonymRow) × (slice_get all number.0 ≡ Some row) × (row.sort ≡ sort)

abbrev pub IsListedRow : List SynonymRow → ValueRow → Type 0
IsListedRow all row = IsListed all row.entry

slice-behind : {A : Type 0} (before rest : List A) (x : A) (n : ℕ) → n ≡ length before →
    slice_get (before ++ x ∷ rest) n ≡ Some x
slice-behind [] rest x n is = ap (slice_get (x ∷ rest)) is
slice-behind (y ∷ before) rest x zero is = absurd (omega (arith, is))
slice-behind (y ∷ before) rest x (suc n) is = slice-behind before rest x n (omega (arith, is))

variables-listed : (all : List SynonymRow) (place : ScopeId) (sort : Option Sort) (initial : Option Expr) (v : ℕ)
    (names : List Spot) → Each (IsListedRow all) (variable_rows place sort initial v names)
variables-listed all place sort initial v [] = tt
variables-listed all place sort initial v (name ∷ names) = (tt, variables-listed all place sort initial (v + 1) names)

synonyms-listed : (all : List SynonymRow) (place : ScopeId) (number : ℕ) (synonyms : List SynonymDefinition)
    (before behind : List SynonymRow) → all ≡ before ++ (map (synonym_row place) synonyms ++ behind) →
    number ≡ length before → Each (IsListedRow all) (synonym_values place number synonyms)
synonyms-listed all place number [] before behind is many = tt
synonyms-listed all place number (synonym ∷ synonyms) before behind is many =
    let row = synonym_row place synonym in
    let rest = map (synonym_row place) synonyms ++ behind in
    let long = length-append before (row ∷ []) in (
      (row, ap (λ list. slice_get list number) is ∙ slice-behind before rest row number many, refl),
      synonyms-listed all place (number + 1) synonyms (before ++ row ∷ []) behind
          (is ∙ sym (append_assoc before (row ∷ []) rest)) (omega (arith, many, long)),
    )

part-listed : (all : List SynonymRow) (s v : ℕ) (place : ScopeId) (part : Part) (before behind : List SynonymRow) →
    all ≡ before ++ (synonyms_of place part ++ behind) → s ≡ length before →
    Each (IsListedRow all) (values_of s v place part)
part-listed all s v place (OfBlock number definition) before behind is many = tt
part-listed all s v place (OfProcess number definition) before behind is many = tt
part-listed all s v place (OfChannel definition) before behind is many = tt
part-listed all s v place (OfConnection definition) before behind is many = tt
part-listed all s v place (OfSignals signals) before behind is many = tt
part-listed all s v place (OfTimers timers) before behind is many = tt
part-listed all s v place (OfSignalList definition) before behind is many = tt
part-listed all s v place (OfSynonyms synonyms) before behind is many =
    synonyms-listed all place s synonyms before behind is many
part-listed all s v place (OfSignalSet definition) before behind is many = tt
part-listed all s v place (OfParameters group) before behind is many =
    variables-listed all place _ None v group.names
part-listed all s v place (OfVariables group) before behind is many =
    variables-listed all place _ group.initial v group.names

after-is : (s : ℕ) (place : ScopeId) (part : Part) → after_synonyms s part ≡ s + length (synonyms_of place part)
after-is s place (OfBlock number definition) = omega arith
after-is s place (OfProcess number definition) = omega arith
after-is s place (OfChannel definition) = omega arith
after-is s place (OfConnection definition) = omega arith
after-is s place (OfSignals signals) = omega arith
after-is s place (OfTimers timers) = omega arith
after-is s place (OfSignalList definition) = omega arith
after-is s place (OfSynonyms synonyms) = ap (λ n. s + n) (sym (length-map synonyms (synonym_row place)))
after-is s place (OfSignalSet definition) = omega arith
after-is s place (OfParameters group) = omega arith
after-is s place (OfVariables group) = omega arith

pub values-listed : (s v : ℕ) (parts : List Placed) (before all : List SynonymRow) →
    all ≡ before ++ flat_map placed_synonyms parts → s ≡ length before → Each (IsListedRow all) (value_rows s v parts)
values-listed s v [] before all is many = tt
values-listed s v (one ∷ parts) before all is many =
    let own = placed_synonyms one in
    let rest = flat_map placed_synonyms parts in
    let next_s = after_synonyms s one.part in
    let next_v = after_variables v one.part in
    let long = length-append before own in
    let after = after-is s one.scope one.part in
    each-both (IsListedRow all) (values_of s v one.scope one.part) (value_rows next_s next_v parts)
    (part-listed all s v one.scope one.part before rest is many)
    (values-listed next_s next_v parts (before ++ own) all (is ∙ sym (append_assoc before own rest))
    (omega (arith, many, long, after)))

-- ---- what the synonym of a number comes to

zip-get : {A B : Type 0} (R : A → B → Type 0) (xs : List A) (ys : List B) (n : ℕ) (x : A) → AllZip R xs ys →
    slice_get xs n ≡ Some x → (y : B) × (slice_get ys n ≡ Some y) × R x y
zip-get R [] [] zero x all at = absurd (let never : ⊥ = cc in never)
zip-get R [] [] (suc n) x all at = absurd (let never : ⊥ = cc in never)
zip-get R [] (z ∷ ys) n x all at = absurd all
zip-get R (y ∷ xs) [] n x all at = absurd all
zip-get R (y ∷ xs) (z ∷ ys) zero x all at =
    let same : y ≡ x = cc in (z, refl, subst (λ w. R w z) same all.0)
zip-get R (y ∷ xs) (z ∷ ys) (suc n) x all at = zip-get R xs ys n x all.1 at

slice-in : {A : Type 0} (xs : List A) (n : ℕ) (x : A) → slice_get xs n ≡ Some x → In x xs
slice-in [] zero x at = absurd (let never : ⊥ = cc in never)
slice-in [] (suc n) x at = absurd (let never : ⊥ = cc in never)
slice-in (y ∷ xs) zero x at = let same : x ≡ y = cc in inl same
slice-in (y ∷ xs) (suc n) x at = inr (slice-in xs n x at)

module _ (tree : Tree) (symbols : SymbolTable) (table : List Constant) (is : IsFaultless tree symbols table) where
  faultless : (one : Synonym) → In one is.valued.synonyms → synonym_faults table one ≡ []
  faultless one at =
      let list = (rows_of_tree tree).synonyms in
      let none = left-empty (flat_map (faults_in_row (rows_of_tree tree) symbols table) list) _
      (left-empty _ _ (left-empty _ _ (left-empty _ _ is.constant_table))) in
      none-empty (synonym_faults table) is.valued.synonyms
      (faults-of (rows_of_tree tree) symbols table list is.valued.synonyms is.valued.listed ∙ none) one at

  -- one that settles has its sort
  settled-sorted : (number : ℕ) (one : Synonym) (sort : Sort) (v : Value) →
      slice_get is.valued.synonyms number ≡ Some one → one.sort ≡ Some sort →
      constant_of table number ≡ constants.Value v → Settles is.valued.synonyms number → has_sort sort v ≡ true
  settled-sorted number one sort v at sort_is value_is settled =
      let expression = expr_value one.expression.now in
      let here = is.valued.come_to.settled number one at settled in
      let comes : constant_in (scope_with table one) (Some sort) expression ≡ constants.Value v =
      ap (λ place. constant_in (scope_with table one) place expression) (sym sort_is) ∙ sym here ∙ value_is in
      let none : constant_faults (scope_with table one) (Some sort) expression ≡ [] =
      ap (λ place. constant_faults (scope_with table one) place expression) (sym sort_is)
      ∙ faultless one (slice-in is.valued.synonyms number one at) in
      constant-sorted (scope_with table one) sort expression v comes none

  -- and one that doesn't has no value
  decided : (number : ℕ) (sort : Sort) (v : Value) (b : Bool) → has_sort sort v ≡ b →
      constant_of table number ≡ constants.Value v →
      (Settles is.valued.synonyms number → has_sort sort v ≡ true) → has_sort sort v ≡ true
  decided number sort v true has value_is settled = has
  decided number sort v false has value_is settled =
      let none : constant_of table number ≡ constants.NoValue = is.valued.come_to.unsettled number
      (λ settles. let has_it = settled settles in let never : ⊥ = cc in never) in
      absurd (let never : ⊥ = cc in never)

  constant-sound : (number : SynonymId) (row : SynonymRow) (sort : Option Sort) (c : Constant) →
      slice_get (rows_of_tree tree).synonyms number.0 ≡ Some row → row.sort ≡ sort → constant_at table number ≡ c →
      IsSoundConstant sort c
  constant-sound number row sort constants.NoValue at sort_is c_is = tt
  constant-sound number row sort constants.Refused at sort_is c_is = tt
  constant-sound number row None (constants.Value v) at sort_is c_is = tt
  constant-sound number row (Some sort) (constants.Value v) at sort_is c_is =
      let one = zip-get (IsSynonym symbols (rows_of_tree tree).processes) (rows_of_tree tree).synonyms
      is.valued.synonyms number.0 row is.valued.listed at in
      let value_is : constant_of table number.0 ≡ constants.Value v =
      sym (unwrap_or-slice_get table number.0 constants.NoValue) ∙ c_is in
      sort-kind sort v (decided number.0 sort v (has_sort sort v) refl value_is
      (λ settles. settled-sorted number.0 one.0 sort v one.1 (one.2.sort ∙ sort_is) value_is settles))

  -- what the constant of a synonym is has its sort
  pub synonym-sound : (number : SynonymId) (sort : Option Sort) →
      IsListed (rows_of_tree tree).synonyms (entry.Synonym number sort) →
      IsSoundConstant sort (constant_at table number)
  synonym-sound number sort listed =
      constant-sound number listed.0 sort (constant_at table number) listed.1 listed.2 refl
