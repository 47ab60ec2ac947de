-- The faults of the definitions of a specification are the rules that are broken in them.
use Rattle.std.proofs.Common.{◌≡◌, ◌++◌, List, Option, None, Some, flat_map, refl, subst, sym}
use Rattle.laws_broken.proofs.InstanceLemmas.{instances-listed, listed-instances}
use Rattle.laws_broken.specs.Definitions as broken
use Rattle.laws_broken.specs.Definitions.{BrokenDefinition, BrokenListed, ListedBroken, all_faults}
use Rattle.laws_broken.specs.Instances.{HasTooMany}
use Rattle.build_constants.proofs.BrokenLaws.{broken-counts, listed-counts}
use Rattle.build_constants.specs.Broken.{IsBrokenInCounts}
use Rattle.build_constants.specs.Timers as timers
use Rattle.build_constants.specs.Variables as variables
use Rattle.build_definitions.proofs.BrokenLaws as declared_laws
use Rattle.build_definitions.specs.Broken.{IsUnknownSort}
use Rattle.build_definitions.specs.Parts.{all_sort_faults}
use Rattle.build_definitions.specs.Definitions.{Rows}
use Rattle.build_constants.specs.ConstantTable.{all_counts, counts_faults_at, duration_faults_at, duration_of, constant_table_faults, initial_faults_at, sort_of_entry}
use Rattle.build_constants.specs.Limit as constant_table
use Rattle.build_constants.specs.Scopes.{scope_in}
use Rattle.build_constants.specs.Synonyms.{faults_in_row}
use Rattle.build_definitions.proofs.SymbolsBrokenLaws as name_laws
use Rattle.build_definitions.specs.SymbolsBroken.{IsDeclaredTwice}
use Rattle.build_definitions.specs.Meanings.{duplicate_faults}
use Rattle.build_definitions.specs.declared.symbols.symbol_table.SymbolTable.{SymbolTable}
use Rattle.build_names.proofs.FaultLemmas.{each-both, each-of, in-each, in-left, in-right}
use Rattle.build_limits.proofs.LimitLaws as limit_laws
use Rattle.build_limits.specs.Broken.{IsLimit}
use Rattle.build_names.specs.FaultLaws.{Each, In}
use Rattle.build_names.specs.Faults.{Diagnostic}
use Rattle.build_limits.specs.Limits.{limit_faults}
use Rattle.build_expressions.proofs.ConstantLaws.{broken-listed-constant, listed-broken-constant}
use Rattle.build_expressions.proofs.ListedLaws.{each-weaker}
use Rattle.build_expressions.specs.Broken.{IsBrokenConstant}
use Rattle.build_expressions.specs.Constants.{constant_faults}
use Rattle.build_expressions.specs.Scope.{Scope}
use Rattle.build_expressions.specs.declared.scope.Constant.{Constant}
use Rattle.sdl_system.specs.declared.sort.Sort.{Sort}
use Rattle.sdl_system.specs.declared.sort.Sort.TheVariants as the_sort
use Rattle.sdl_tree.specs.Tree.{Expr, Tree}

-- ---- a constant that stands or doesn't

module _ (scope : Scope) (P : Diagnostic → Type 0) where
  each-initial : (sort : Option Sort) (initial : Option Expr) →
      ((value : Expr) (fault : Diagnostic) → initial ≡ Some value → IsBrokenConstant scope sort value fault → P fault) →
      Each P (variables.initial_faults scope sort initial)
  each-initial sort None so = tt
  each-initial sort (Some value) so =
      each-weaker (IsBrokenConstant scope sort value) P (constant_faults scope sort value)
      (λ fault breaks. so value fault refl breaks) (listed-broken-constant scope sort value)

  each-duration : (written : Option Expr) →
      ((length : Expr) (fault : Diagnostic) → written ≡ Some length →
      IsBrokenConstant scope (Some the_sort.Duration) length fault → P fault) →
      Each P (timers.duration_faults scope written)
  each-duration None so = tt
  each-duration (Some length) so =
      each-weaker (IsBrokenConstant scope (Some the_sort.Duration) length) P
      (constant_faults scope (Some the_sort.Duration) length) (λ fault breaks. so length fault refl breaks)
      (listed-broken-constant scope (Some the_sort.Duration) length)

module _ (tree : Tree) (rows : Rows) (symbols : SymbolTable) (constants : List Constant) where
  abbrev Breaks : Diagnostic → Type 0
  Breaks fault = BrokenDefinition tree rows symbols constants fault

  abbrev of_synonyms : List Diagnostic
  of_synonyms = flat_map (faults_in_row rows symbols constants) rows.synonyms

  abbrev of_counts : List Diagnostic
  of_counts = flat_map (counts_faults_at rows symbols constants) rows.processes

  abbrev of_instances : List Diagnostic
  of_instances = constant_table.limit_faults rows.processes (all_counts rows symbols constants)

  abbrev of_initials : List Diagnostic
  of_initials = flat_map (initial_faults_at rows symbols constants) rows.values

  abbrev of_durations : List Diagnostic
  of_durations = flat_map (duration_faults_at rows symbols constants) rows.signals

  abbrev up_to_instances : List Diagnostic
  up_to_instances = (of_synonyms ++ of_counts) ++ of_instances

  abbrev up_to_initials : List Diagnostic
  up_to_initials = up_to_instances ++ of_initials

  -- ---- each fault is broken

  each-synonym : Each Breaks of_synonyms
  each-synonym =
      each-of Breaks (faults_in_row rows symbols constants) rows.synonyms (λ row among.
      each-weaker
      (IsBrokenConstant (scope_in rows symbols constants row.scope) row.sort row.definition.value) Breaks
      (faults_in_row rows symbols constants row) (λ fault breaks. broken.synonym row among fault breaks)
      (listed-broken-constant (scope_in rows symbols constants row.scope) row.sort row.definition.value))

  each-count : Each Breaks of_counts
  each-count =
      each-of Breaks (counts_faults_at rows symbols constants) rows.processes (λ row among.
      each-weaker (IsBrokenInCounts (scope_in rows symbols constants row.scope) row.definition.counts) Breaks
      (counts_faults_at rows symbols constants row) (λ fault breaks. broken.counts row among fault breaks)
      (listed-counts (scope_in rows symbols constants row.scope) row.definition.counts))

  each-instance : Each Breaks of_instances
  each-instance =
      each-weaker (HasTooMany rows symbols constants) Breaks of_instances
      (λ fault many. broken.instances fault many) (listed-instances rows symbols constants)

  each-value : Each Breaks of_initials
  each-value =
      each-of Breaks (initial_faults_at rows symbols constants) rows.values (λ row among.
      each-initial (scope_in rows symbols constants row.scope) Breaks (sort_of_entry row.entry) row.initial
      (λ value fault is breaks. broken.initial row among value is fault breaks))

  each-timer : Each Breaks of_durations
  each-timer =
      each-of Breaks (duration_faults_at rows symbols constants) rows.signals (λ row among.
      each-duration (scope_in rows symbols constants row.scope) Breaks (duration_of row.kind)
      (λ length fault is breaks. broken.duration row among length is fault breaks))

  each-figure : Each Breaks (constant_table_faults rows symbols constants)
  each-figure =
      each-both Breaks up_to_initials of_durations
      (each-both Breaks up_to_instances of_initials
      (each-both Breaks (of_synonyms ++ of_counts) of_instances
      (each-both Breaks of_synonyms of_counts each-synonym each-count) each-instance) each-value) each-timer

  each-limit : Each Breaks (limit_faults tree)
  each-limit =
      each-weaker (IsLimit tree) Breaks (limit_faults tree) (λ fault breaks. broken.passes_limit fault breaks)
      (limit_laws.listed-broken tree)

  each-sort : Each Breaks (all_sort_faults tree)
  each-sort =
      each-weaker (IsUnknownSort tree) Breaks (all_sort_faults tree)
      (λ fault breaks. broken.unknown_sort fault breaks) (declared_laws.listed-broken tree)

  each-duplicate : Each Breaks (duplicate_faults rows)
  each-duplicate =
      each-weaker (IsDeclaredTwice rows) Breaks (duplicate_faults rows)
      (λ fault breaks. broken.declared_twice fault breaks) (name_laws.listed-broken rows)

  each-fault : Each Breaks (all_faults tree rows symbols constants)
  each-fault =
      each-both Breaks (limit_faults tree)
      (all_sort_faults tree ++ (duplicate_faults rows ++ constant_table_faults rows symbols constants)) each-limit
      (each-both Breaks (all_sort_faults tree) (duplicate_faults rows ++ constant_table_faults rows symbols constants)
      each-sort
      (each-both Breaks (duplicate_faults rows) (constant_table_faults rows symbols constants) each-duplicate
      each-figure))

  -- ---- each that is broken is listed

  behind-limits : (fault : Diagnostic) →
      In fault (all_sort_faults tree ++ (duplicate_faults rows ++ constant_table_faults rows symbols constants)) →
      In fault (all_faults tree rows symbols constants)
  behind-limits fault at =
      in-right fault (limit_faults tree)
      (all_sort_faults tree ++ (duplicate_faults rows ++ constant_table_faults rows symbols constants)) at

  behind-sorts : (fault : Diagnostic) → In fault (duplicate_faults rows
      ++ constant_table_faults rows symbols constants) →
      In fault (all_faults tree rows symbols constants)
  behind-sorts fault at =
      behind-limits fault
      (in-right fault (all_sort_faults tree) (duplicate_faults rows ++ constant_table_faults rows symbols constants) at)

  in-figures : (fault : Diagnostic) → In fault (constant_table_faults rows symbols constants) →
      In fault (all_faults tree rows symbols constants)
  in-figures fault at =
      behind-sorts fault (in-right fault (duplicate_faults rows) (constant_table_faults rows symbols constants) at)

  in-initials : (fault : Diagnostic) → In fault up_to_initials → In fault (all_faults tree rows symbols constants)
  in-initials fault at = in-figures fault (in-left fault up_to_initials of_durations at)

  in-instances : (fault : Diagnostic) → In fault up_to_instances → In fault (all_faults tree rows symbols constants)
  in-instances fault at = in-initials fault (in-left fault up_to_instances of_initials at)

  in-counts : (fault : Diagnostic) → In fault (of_synonyms ++ of_counts) →
      In fault (all_faults tree rows symbols constants)
  in-counts fault at = in-instances fault (in-left fault (of_synonyms ++ of_counts) of_instances at)

  in-definitions : (fault : Diagnostic) → BrokenDefinition tree rows symbols constants fault →
      In fault (all_faults tree rows symbols constants)
  in-definitions fault (broken.passes_limit told breaks) =
      in-left told (limit_faults tree)
      (all_sort_faults tree ++ (duplicate_faults rows ++ constant_table_faults rows symbols constants))
      (limit_laws.broken-listed tree told breaks)
  in-definitions fault (broken.unknown_sort told breaks) =
      behind-limits told
      (in-left told (all_sort_faults tree) (duplicate_faults rows ++ constant_table_faults rows symbols constants)
      (declared_laws.broken-listed tree told breaks))
  in-definitions fault (broken.declared_twice told breaks) =
      behind-sorts told
      (in-left told (duplicate_faults rows) (constant_table_faults rows symbols constants)
      (name_laws.broken-listed rows told breaks))
  in-definitions fault (broken.synonym row among told breaks) =
      in-counts told
      (in-left told of_synonyms of_counts
      (in-each told (faults_in_row rows symbols constants) rows.synonyms row among
      (broken-listed-constant (scope_in rows symbols constants row.scope) row.sort row.definition.value told breaks)))
  in-definitions fault (broken.counts row among told breaks) =
      in-counts told
      (in-right told of_synonyms of_counts
      (in-each told (counts_faults_at rows symbols constants) rows.processes row among
      (broken-counts (scope_in rows symbols constants row.scope) row.definition.counts told breaks)))
  in-definitions fault (broken.instances told many) =
      in-instances told
      (in-right told (of_synonyms ++ of_counts) of_instances (instances-listed rows symbols constants told many))
  in-definitions fault (broken.initial row among value is told breaks) =
      let scope : Scope = scope_in rows symbols constants row.scope in
      in-initials told
      (in-right told up_to_instances of_initials
      (in-each told (initial_faults_at rows symbols constants) rows.values row among
      (subst (λ (written : Option Expr). In told (variables.initial_faults scope (sort_of_entry row.entry) written))
      (sym is) (broken-listed-constant scope (sort_of_entry row.entry) value told breaks))))
  in-definitions fault (broken.duration row among length is told breaks) =
      let scope : Scope = scope_in rows symbols constants row.scope in
      in-figures told
      (in-right told up_to_initials of_durations
      (in-each told (duration_faults_at rows symbols constants) rows.signals row among
      (subst (λ (written : Option Expr). In told (timers.duration_faults scope written)) (sym is)
      (broken-listed-constant scope (Some the_sort.Duration) length told breaks))))

pub listed-broken : ListedBroken
listed-broken tree rows symbols constants = each-fault tree rows symbols constants

pub broken-listed : BrokenListed
broken-listed tree rows symbols constants fault breaks = in-definitions tree rows symbols constants fault breaks
