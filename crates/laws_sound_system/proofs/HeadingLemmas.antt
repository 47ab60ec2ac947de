-- What the headings of processes say fits.
use Rattle.std.proofs.Common.{◌≡◌, ◌∙◌, ◌++◌, ◌||◌, ◌≤◌, ◌≤ℤ◌, ℕ, zero, suc, ℤ, pos, negsuc, Bool, true, false, All, IfSome, List, [], ◌∷◌, Option, None, Some, ap, arith, flat_map, if◌then◌else◌, int_lt, length, map, refl, slice_get, subst, sym, unsigned_abs}
use Rattle.std.proofs.lemmas.Int.{ints}
use Rattle.std.proofs.lemmas.List.{length-append, length-map}
use Rattle.std.proofs.lemmas.List.Elements.{All-head, All-tail}
use Rattle.std.specs.Int.{FitsUnsignedBits}
use Rattle.port_model.specs.declared.values.value.Value.{Value}
use Rattle.sdl_build.proofs.MadeLemmas.{get-below}
use Rattle.sdl_build.proofs.WholeLemmas.{faultless}
use Rattle.sdl_build.specs.Built.{IsBuilt}
use Rattle.sdl_build.specs.Headings.{IsBound, IsInitial, IsMaximum, value_in, variable_in, variable_of, variable_sort, variables_in}
use Rattle.sdl_build.specs.Context.{Context}
use Rattle.laws_complete.proofs.AnswerLemmas.{constant-given}
use Rattle.laws_complete.proofs.EmptyLemmas.{left-empty, not-broken, right-empty}
use Rattle.laws_complete.proofs.SeenLemmas.{scopes-complete}
use Rattle.laws_complete.specs.Complete.{HasValue, IsComplete}
use Rattle.laws_complete.specs.Names.{IsFaultless, rows_of_tree}
use Rattle.build_constants.specs.Counts.{accepted, are_misfit, counts_faults, counts_in, maximum_in, number_part, part_faults, part_in, with_parts}
use Rattle.build_constants.specs.Variables.{initial_faults, initial_in}
use Rattle.build_constants.specs.declared.counts.InstanceCounts.{InstanceCounts}
use Rattle.build_definitions.specs.Rows.{ProcessRow, ValueRow}
use Rattle.build_definitions.specs.Definitions.{Rows}
use Rattle.build_constants.specs.ConstantTable.{counts_at, counts_faults_at, duration_faults_at, initial_at, initial_faults_at, sort_of_entry}
use Rattle.build_constants.specs.Scopes.{scope_in}
use Rattle.build_definitions.specs.declared.symbols.symbol_table.SymbolTable.{SymbolTable}
use Rattle.run_semantics.specs.Instance.{first_store}
use Rattle.run_semantics.specs.ControlPoint.{AtStart}
use Rattle.build_names.proofs.FaultLemmas.{each-both}
use Rattle.build_names.specs.FaultLaws.{Each}
use Rattle.build_names.specs.Faults.{fault_if, mark_word}
use Rattle.build_names.specs.declared.faults.fault.Rule.TheVariants.{BadCount}
use Rattle.build_expressions.specs.Constants.{constant_faults, constant_in}
use Rattle.build_expressions.specs.Scope.{Scope}
use Rattle.build_expressions.specs.declared.scope.Constant.{Constant}
use Rattle.build_expressions.specs.declared.scope.Constant.TheVariants as constants
use Rattle.build_expressions.specs.declared.scope.ValueEntry.{ValueEntry}
use Rattle.build_expressions.specs.declared.scope.ValueEntry.TheVariants as entry
use Rattle.laws_sound_system.proofs.AgentLemmas.{some_sort}
use Rattle.laws_sound_system.proofs.ConstantLemmas.{constant-sorted}
use Rattle.laws_sound_system.proofs.SignalLemmas.{mapped-back}
use Rattle.laws_sound_system.proofs.SystemLemmas.{HasHeading, IsKnown, each-all, known, rows-known, unmapped}
use Rattle.laws_sound_system.proofs.WalkLemmas.{scope_of_process, the_process}
use Rattle.laws_sound_system.specs.Laws.{BuiltRunsHaveSorts, HeadingsAreSound}
use Rattle.laws_sound_runs.proofs.SortLemmas.{runs-keep-sorts, starts-with-sorts}
use Rattle.laws_sound_runs.specs.Sorts.{HaveInitials}
use Rattle.build_names.specs.Spaces.{is_same_scope}
use Rattle.sdl_system.specs.Behaviour.{Behaviour, VariableMeaning, variable_meaning}
use Rattle.sdl_system.specs.Operation.{number_of}
use Rattle.sdl_system.specs.Sort.{has_sort}
use Rattle.sdl_system.specs.Soundness.{IsSoundVariable}
use Rattle.sdl_system.specs.System.{SystemValue}
use Rattle.sdl_system.specs.declared.id.ProcessId.{ProcessId}
use Rattle.sdl_system.specs.declared.process.Process.{Process}
use Rattle.sdl_system.specs.declared.sort.Sort.{Sort}
use Rattle.sdl_system.specs.declared.sort.Sort.TheVariants as sort
use Rattle.sdl_tree.specs.Tree.{Counts, Expr, Tree}
use Rattle.sdl_tree.specs.declared.mark.Mark.TheVariants as mark

each-empty : {A B : Type 0} (f : A → List B) (xs : List A) → flat_map f xs ≡ [] → Each (λ x. f x ≡ []) xs
each-empty f [] none = tt
each-empty f (x ∷ xs) none =
    (left-empty (f x) (flat_map f xs) none, each-empty f xs (right-empty (f x) (flat_map f xs) none))

each-at : {A : Type 0} (P : A → Type 0) (xs : List A) (n : ℕ) (x : A) → Each P xs → slice_get xs n ≡ Some x → P x
each-at P [] zero x each at = absurd (let never : ⊥ = cc in never)
each-at P [] (suc n) x each at = absurd (let never : ⊥ = cc in never)
each-at P (y ∷ xs) zero x each at = let same : y ≡ x = cc in subst P same each.0
each-at P (y ∷ xs) (suc n) x each at = each-at P xs n x each.1 at

all-each : {A : Type 0} (P : A → Type 0) (xs : List A) → All P xs → Each P xs
all-each P [] all = tt
all-each P (x ∷ xs) all = (All-head P x xs all, all-each P xs (All-tail P x xs all))

-- ---- initial values

abbrev IsInitialOf : Sort → Option Value → Type 0
IsInitialOf one initial = IfSome initial (λ v. has_sort one v ≡ true)

abbrev IsSoundMeaning : VariableMeaning → Type 0
IsSoundMeaning variable = IsInitialOf variable.sort variable.initial

constant-initial : (scope : Scope) (one : Sort) (expression : Expr) (c : Constant) →
    constant_in scope (Some one) expression ≡ c → constant_faults scope (Some one) expression ≡ [] →
    IsInitialOf one (value_in (Some c))
constant-initial scope one expression (constants.Value v) is none = constant-sorted scope one expression v is none
constant-initial scope one expression constants.NoValue is none = tt
constant-initial scope one expression constants.Refused is none = tt

initial-sorted : (scope : Scope) (one : Sort) (initial : Option Expr) → initial_faults scope (Some one) initial ≡ [] →
    IsInitialOf one (value_in (initial_in scope (Some one) initial))
initial-sorted scope one None none = tt
initial-sorted scope one (Some expression) none =
    constant-initial scope one expression (constant_in scope (Some one) expression) refl none

entry-initial : (scope : Scope) (row : ValueRow) (one : ValueEntry) (initial : Option Expr) →
    initial_faults scope (sort_of_entry one) initial ≡ [] →
    Each IsSoundMeaning (variable_of row (initial_in scope (sort_of_entry one) initial) (variable_sort one))
entry-initial scope row (entry.Variable number None) initial none = tt
entry-initial scope row (entry.Variable number (Some one)) initial none = (initial-sorted scope one initial none, tt)
entry-initial scope row (entry.Synonym number one) initial none = tt

each-if : (b : Bool) (list : List VariableMeaning) → Each IsSoundMeaning list →
    Each IsSoundMeaning (if b then list else [])
each-if true list each = each
each-if false list each = tt

rows-initial : (all : Rows) (symbols : SymbolTable) (table : List Constant) (k : ℕ) (rows : List ValueRow) →
    Each (λ row. initial_faults_at all symbols table row ≡ []) rows →
    Each IsSoundMeaning (variables_in (the_process k) rows (map (initial_at all symbols table) rows))
rows-initial all symbols table k [] none = tt
rows-initial all symbols table k (row ∷ rows) none =
    each-both IsSoundMeaning (variable_in (the_process k) row (initial_at all symbols table row))
    (variables_in (the_process k) rows (map (initial_at all symbols table) rows))
    (each-if (is_same_scope row.scope (scope_of_process k))
    (variable_of row (initial_at all symbols table row) (variable_sort row.entry))
    (entry-initial (scope_in all symbols table row.scope) row row.entry row.initial none.0))
    (rows-initial all symbols table k rows none.1)

-- ---- counts

abbrev IsGoodBound : ℤ → Option ℤ → Type 0
IsGoodBound initial None = Unit {0}
IsGoodBound initial (Some maximum) = (pos 0 ≤ℤ initial) × (pos 1 ≤ℤ maximum) × (initial ≤ℤ maximum)

abbrev AreGoodCounts : Option InstanceCounts → Type 0
AreGoodCounts None = ⊥
AreGoodCounts (Some counts) = IsGoodBound counts.initial counts.maximum

or-false : (a b : Bool) → (a || b) ≡ false → (a ≡ false) × (b ≡ false)
or-false true b is = absurd (let never : ⊥ = cc in never)
or-false false b is = (refl, is)

least : (maximum : ℤ) → int_lt maximum (pos 1) ≡ false → pos 1 ≤ℤ maximum
least maximum is = omega (arith, ints)

not-negative : (initial : ℤ) → int_lt initial (pos 0) ≡ false → pos 0 ≤ℤ initial
not-negative initial is = omega (arith, ints)

not-above : (initial maximum : ℤ) → int_lt maximum initial ≡ false → initial ≤ℤ maximum
not-above initial maximum is = omega (arith, ints)

none-below : pos 0 ≤ℤ pos 1
none-below = omega (arith, ints)

-- a maximum alone
right-good : (scope : Scope) (c : Constant) → HasValue c → are_misfit (part_in scope None) (number_part c) ≡ false →
    AreGoodCounts (accepted (part_in scope None) (number_part c))
right-good scope constants.NoValue has fit = absurd has
right-good scope constants.Refused has fit = absurd has
right-good scope (constants.Value v) has fit =
    let maximum = number_of v in
    let no = or-false (int_lt maximum (pos 1)) false fit in
    let more = least maximum no.0 in
    subst (λ b. AreGoodCounts (if b then None else with_parts (part_in scope None) (number_part (constants.Value v))))
    (sym fit) (none-below, more, more)

-- an initial number alone
left-good : (scope : Scope) (c : Constant) → HasValue c → are_misfit (number_part c) (part_in scope None) ≡ false →
    AreGoodCounts (accepted (number_part c) (part_in scope None))
left-good scope constants.NoValue has fit = absurd has
left-good scope constants.Refused has fit = absurd has
left-good scope (constants.Value v) has fit =
    subst (λ b. AreGoodCounts (if b then None else with_parts (number_part (constants.Value v)) (part_in scope None)))
    (sym fit) tt

both-good : (c d : Constant) → HasValue c → HasValue d → are_misfit (number_part c) (number_part d) ≡ false →
    AreGoodCounts (accepted (number_part c) (number_part d))
both-good constants.NoValue d has also fit = absurd has
both-good constants.Refused d has also fit = absurd has
both-good (constants.Value v) constants.NoValue has also fit = absurd also
both-good (constants.Value v) constants.Refused has also fit = absurd also
both-good (constants.Value v) (constants.Value w) has also fit =
    let initial = number_of v in
    let maximum = number_of w in
    let no = or-false (int_lt initial (pos 0)) (int_lt maximum (pos 1) || int_lt maximum initial) fit in
    let nor = or-false (int_lt maximum (pos 1)) (int_lt maximum initial) no.1 in
    subst (λ b.
    AreGoodCounts (if b then None else with_parts (number_part (constants.Value v)) (number_part (constants.Value w))))
    (sym fit) (not-negative initial no.0, least maximum nor.0, not-above initial maximum nor.1)

parts-good : (scope : Scope) → IsComplete scope → (initial maximum : Option Expr) → part_faults scope initial ≡ [] →
    part_faults scope maximum ≡ [] → are_misfit (part_in scope initial) (part_in scope maximum) ≡ false →
    AreGoodCounts (accepted (part_in scope initial) (part_in scope maximum))
parts-good scope complete None None none also fit = tt
parts-good scope complete None (Some maximum) none also fit =
    right-good scope (constant_in scope (Some sort.Integer) maximum)
    (constant-given scope complete (Some sort.Integer) maximum also) fit
parts-good scope complete (Some initial) None none also fit =
    left-good scope (constant_in scope (Some sort.Integer) initial)
    (constant-given scope complete (Some sort.Integer) initial none) fit
parts-good scope complete (Some initial) (Some maximum) none also fit =
    both-good (constant_in scope (Some sort.Integer) initial) (constant_in scope (Some sort.Integer) maximum)
    (constant-given scope complete (Some sort.Integer) initial none)
    (constant-given scope complete (Some sort.Integer) maximum also) fit

counts-good : (scope : Scope) → IsComplete scope → (counts : Option Counts) → counts_faults scope counts ≡ [] →
    AreGoodCounts (counts_in scope counts)
counts-good scope complete None none = tt
counts-good scope complete (Some counts) none =
    let first = part_faults scope counts.initial in
    let second = part_faults scope (maximum_in counts.bound) in
    let third = fault_if (are_misfit (part_in scope counts.initial) (part_in scope (maximum_in counts.bound))) BadCount
    (mark_word mark.Open counts.parenthesis) in
    let rest = right-empty first (second ++ third) none in
    parts-good scope complete counts.initial (maximum_in counts.bound) (left-empty first (second ++ third) none)
    (left-empty second third rest)
    (not-broken (are_misfit (part_in scope counts.initial) (part_in scope (maximum_in counts.bound))) BadCount
    (mark_word mark.Open counts.parenthesis) (right-empty second third rest))

-- as numbers of 32 bits
numbers-fit : (i m : ℤ) (initial maximum : ℕ) → pos 0 ≤ℤ i → pos 1 ≤ℤ m → i ≤ℤ m → FitsUnsignedBits 32 m →
    maximum ≡ unsigned_abs m → (FitsUnsignedBits 32 i → initial ≡ unsigned_abs i) →
    (1 ≤ maximum) × (initial ≤ maximum)
numbers-fit (negsuc i) m initial maximum some least most fits is known =
    absurd (let never : ⊥ = omega (arith, ints) in never)
numbers-fit (pos i) (negsuc m) initial maximum some least most fits is known =
    absurd (let never : ⊥ = omega (arith, ints) in never)
numbers-fit (pos i) (pos m) initial maximum some least most fits is known =
    let below : i ≤ m = omega (arith, ints) in
    let more : 1 ≤ m = omega (arith, ints) in
    let value : maximum ≡ m = is in
    let first : initial ≡ i = known (omega (arith, below, fits)) in
    (omega (arith, more, value), omega (arith, below, value, first))

bound-fits : (i : ℤ) (bound : Option ℤ) (initial : ℕ) (maximum : Option ℕ) → IsGoodBound i bound →
    (FitsUnsignedBits 32 i → initial ≡ unsigned_abs i) → IsBound bound maximum →
    IfSome maximum (λ m. (1 ≤ m) × (initial ≤ m))
bound-fits i None initial maximum good known is =
    subst (λ o. IfSome o (λ m. (1 ≤ m) × (initial ≤ m))) (sym is) tt
bound-fits i (Some bound) initial None good known is = tt
bound-fits i (Some bound) initial (Some maximum) good known is =
    numbers-fit i bound initial maximum good.0 good.1 good.2 is.0 is.1 known

counts-fit : (found : Option InstanceCounts) (initial : ℕ) (maximum : Option ℕ) → AreGoodCounts found →
    IsInitial found initial → IsMaximum found maximum → IfSome maximum (λ m. (1 ≤ m) × (initial ≤ m))
counts-fit None initial maximum good is most = absurd good
counts-fit (Some counts) initial maximum good is most =
    bound-fits counts.initial counts.maximum initial maximum good is.0 most

-- ---- a process of a system

parameters-fit : (few many : ℕ) (sorts more all : List (Option Sort)) → few ≡ length sorts → all ≡ sorts ++ more →
    length all ≡ many → few ≤ many
parameters-fit few many sorts more all is both long =
    let split = length-append sorts more in
    let same = ap length both in
    omega (arith, is, split, same, long)

module _ (tree : Tree) (system : SystemValue) (built : IsBuilt tree system) (number : ProcessId) (process : Process)
    (at : slice_get system.processes number.0 ≡ Some process) where
  abbrev context : Context
  context = built.context

  abbrev rows : Rows
  rows = rows_of_tree tree

  is : IsFaultless tree context.symbols context.constants
  is = faultless tree context built.defined built.unbroken

  facts : IsKnown context.symbols context.constants system rows
  facts = subst (IsKnown context.symbols context.constants system) built.defined.rows (known context system built.built)

  its : (row : ProcessRow) × (slice_get rows.processes number.0 ≡ Some row)
  its = get-below rows.processes system.processes number.0 process facts.size at

  heading : HasHeading context.symbols context.constants rows number.0 its.0 process
  heading = facts.each number.0 its.0 process its.1 at

  initials-none : Each (λ one. initial_faults_at rows context.symbols context.constants one ≡ []) rows.values
  initials-none =
      each-empty (initial_faults_at rows context.symbols context.constants) rows.values
      (right-empty _ (flat_map (initial_faults_at rows context.symbols context.constants) rows.values)
      (left-empty _ (flat_map (duration_faults_at rows context.symbols context.constants) rows.signals)
      is.constant_table))

  variables-sound : All IsSoundVariable process.variables.items
  variables-sound =
      each-all IsSoundVariable process.variables.items
      (unmapped variable_meaning IsSoundMeaning process.variables.items
      (subst (Each IsSoundMeaning) (sym heading.variables)
      (rows-initial rows context.symbols context.constants number.0 rows.values initials-none)))

  counts-none : Each (λ one. counts_faults_at rows context.symbols context.constants one ≡ []) rows.processes
  counts-none =
      each-empty (counts_faults_at rows context.symbols context.constants) rows.processes
      (right-empty _ (flat_map (counts_faults_at rows context.symbols context.constants) rows.processes)
      (left-empty _ _ (left-empty _ _
      (left-empty _ (flat_map (duration_faults_at rows context.symbols context.constants) rows.signals)
      is.constant_table))))

  parameters-sound : process.parameters ≤ length process.variables.items
  parameters-sound =
      let own = rows-known tree system built in
      let begins = own.processes.begins number.0 its.0 its.1 in
      let has = own.processes.each number.0 its.0 process its.1 at in
      parameters-fit process.parameters (length process.variables.items) (its.0).sorts begins.0
      (map some_sort process.variables.items) has.parameters (has.variables ∙ begins.1)
      (length-map process.variables.items some_sort)

  counts-sound : IfSome process.maximum (λ maximum. (1 ≤ maximum) × (process.initial ≤ maximum))
  counts-sound =
      let scope = scope_in rows context.symbols context.constants (its.0).scope in
      counts-fit (counts_at rows context.symbols context.constants its.0) process.initial process.maximum
      (counts-good scope (scopes-complete tree context.symbols context.constants is (its.0).scope)
      (its.0).definition.counts
      (each-at (λ (one : ProcessRow). counts_faults_at rows context.symbols context.constants one ≡ []) rows.processes
      number.0 its.0 counts-none its.1)) heading.initial heading.maximum

pub headings-are-sound : HeadingsAreSound
headings-are-sound tree system built number process at = record {
  counts = counts-sound tree system built number process at;
  parameters = parameters-sound tree system built number process at;
  variables = variables-sound tree system built number process at;
}

-- ---- runs

has-initials : (process : Process) (p : Behaviour) → All IsSoundVariable process.variables.items →
    map variable_meaning process.variables.items ≡ p.variables → HaveInitials p
has-initials process p sound are number variable listed =
    let own = mapped-back variable_meaning process.variables.items number variable
    (ap (λ list. slice_get list number) are ∙ listed) in
    subst IsSoundMeaning own.2
    (each-at IsSoundVariable process.variables.items number own.0
    (all-each IsSoundVariable process.variables.items sound) own.1)

pub built-runs-have-sorts : BuiltRunsHaveSorts
built-runs-have-sorts tree system built number process can at d is who place values t q r deeds history fit runs =
    let means = can.means d.behaviour is in
    runs-keep-sorts d who AtStart place (first_store d.behaviour values) t q r deeds history
    (starts-with-sorts d.behaviour values
    (has-initials process d.behaviour (variables-sound tree system built number process at) means.variables_are) fit)
    runs
