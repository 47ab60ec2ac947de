-- What is seen inside a process of a system stands for what is there.
use Rattle.std.proofs.Common.{◌≡◌, ◌∙◌, ◌++◌, ◌+◌, ℕ, Bool, true, false, List, [], ◌∷◌, Option, None, Some, arith, cond, length, map, refl, ap, slice_get, sym, subst}
use Rattle.std.proofs.lemmas.Bool.{eqb-true}
use Rattle.std.proofs.lemmas.List.{length-map}
use Rattle.std.specs.Str.{bytes_eq}
use Rattle.sdl_build.specs.Signals.{signal_of, signals_from}
use Rattle.laws_complete.proofs.NameLemmas.{EachMeans, each-and, each-map, meant-mean, seen-is}
use Rattle.laws_complete.proofs.SortLemmas.{sorts-given}
use Rattle.laws_complete.specs.Names.{IsFaultless, rows_of_tree}
use Rattle.build_definitions.specs.Parts.{parts_in}
use Rattle.build_definitions.specs.Rows.{ProcessRow, ValueRow}
use Rattle.build_definitions.specs.Definitions.{Rows, path_of}
use Rattle.build_constants.specs.ConstantTable.{all_durations, duration_at}
use Rattle.build_constants.specs.Scopes.{scope_in}
use Rattle.build_definitions.specs.Entries.{Entry, entries_in, entry_in}
use Rattle.build_definitions.specs.Meanings.{agent_entries, signal_entries, value_entries, value_entry}
use Rattle.build_definitions.specs.declared.symbols.symbol_table.SymbolTable.{SymbolTable}
use Rattle.build_names.specs.FaultLaws.{Each}
use Rattle.build_names.specs.Names.{first_of}
use Rattle.build_expressions.specs.Scope.{agent_meaning, meaning, signal_meaning, value_meaning}
use Rattle.build_expressions.specs.declared.scope.Constant.{Constant}
use Rattle.build_expressions.specs.declared.scope.ValueEntry.{ValueEntry}
use Rattle.build_expressions.specs.declared.scope.ValueEntry.TheVariants as entry
use Rattle.laws_sound_system.proofs.AgentLemmas.{AreProcesses, HasVariables, agents-sound, some_sort}
use Rattle.laws_sound_system.proofs.ConstantLemmas.{IsListed, IsListedRow, synonym-sound, values-listed}
use Rattle.laws_sound_system.proofs.SignalLemmas.{mapped-back, signals-sound}
use Rattle.laws_sound_system.proofs.VariableLemmas.{IsPlaced, IsPlacedRow, all-placed, sorts_in}
use Rattle.laws_sound_system.proofs.WalkLemmas.{processes_before, scope_of_process, the_process, tree-walk, walk-agents, walk-long, walk-timed}
use Rattle.laws_sound_runs.specs.Scopes.{IsSoundAgent, IsSoundScope, IsSoundSignal, IsSoundValue}
use Rattle.build_names.specs.Spaces.{block_names, entry_if, is_same_scope, names_of, process_names, seen_in}
use Rattle.build_names.specs.declared.scopes.scope.ScopeId.{ScopeId}
use Rattle.build_names.specs.declared.scopes.scope.ScopeId.TheVariants as scope
use Rattle.sdl_system.specs.System.{SystemValue}
use Rattle.sdl_system.specs.declared.id.BlockId.{BlockId}
use Rattle.sdl_system.specs.declared.process.Process.{Process}
use Rattle.sdl_system.specs.declared.process.Variable.{Variable}
use Rattle.sdl_system.specs.declared.sort.Sort.{Sort}
use Rattle.sdl_tree.specs.Tree.{Tree}

-- ---- names of one scope

means-both : {A : Type 0} (P : A → Type 0) (xs ys : List (List ℕ × A)) → EachMeans P xs → EachMeans P ys →
    EachMeans P (xs ++ ys)
means-both P [] ys left right = right
means-both P (x ∷ xs) ys left right = (left.0, means-both P xs ys left.1 right)

one-entry : {A : Type 0} (P : A → Type 0) (b : Bool) (text : List ℕ) (what : A) → (b ≡ true → P what) →
    EachMeans P (entry_if b text what)
one-entry P true text what so = (so refl, tt)
one-entry P false text what so = tt

-- what holds of the entries of a scope holds of what its names stand for
entries-at : {A : Type 0} (P : A → Type 0) (place : ScopeId) (entries : List (Entry A)) →
    Each (λ (entry : Entry A). is_same_scope entry.scope place ≡ true → P entry.what) entries →
    EachMeans P (entries_in place entries)
entries-at P place [] each = tt
entries-at P place (entry ∷ entries) each =
    means-both P (entry_in place entry) (entries_in place entries)
    (one-entry P (is_same_scope entry.scope place) entry.name.text entry.what each.0)
    (entries-at P place entries each.1)

found-one : {B : Type 0} (P : B → Type 0) (same : Bool) (what meaning : B) (later : Option B) → P what →
    (later ≡ Some meaning → P meaning) → cond same (Some what) later ≡ Some meaning → P meaning
found-one P true what meaning later here there is = let same : what ≡ meaning = cc in subst P same here
found-one P false what meaning later here there is = there is

found-mean : {A B : Type 0} (f : A → B) (P : B → Type 0) (names : List (List ℕ × A)) (text : List ℕ) (found : B) →
    EachMeans (λ a. P (f a)) names → first_of (meaning f names) text ≡ Some found → P found
found-mean f P [] text found each is = absurd (let never : ⊥ = cc in never)
found-mean f P (name ∷ names) text found each is =
    found-one P (bytes_eq text name.0) (f name.1) found (first_of (meaning f names) text) each.0
    (λ later. found-mean f P names text found each.1 later) is

-- ---- what is known of a system

-- it has the signals of these rows, and the processes, with their variables
pub record IsOfRows (tree : Tree) (symbols : SymbolTable) (constants : List Constant) (system : SystemValue)
    (rows : Rows) : Type 0 where
  pub signals : map signal_of system.signals ≡ signals_from rows.signals (all_durations rows symbols constants)
  pub processes : AreProcesses system rows.processes (λ k. sorts_in k (parts_in tree))

module _ (tree : Tree) (symbols : SymbolTable) (constants : List Constant) (is : IsFaultless tree symbols constants)
    (system : SystemValue) (known : IsOfRows tree symbols constants system (rows_of_tree tree)) where
  abbrev rows : Rows
  rows = rows_of_tree tree

  -- as many processes as stand in the text
  pub counted : processes_before 0 tree.definitions ≡ length rows.processes
  counted = sym (walk-long (tree-walk tree)) ∙ zero-plus (length rows.processes)
    where
      zero-plus : (n : ℕ) → 0 + n ≡ n
      zero-plus n = omega arith

  module _ (number : ℕ) (row : ProcessRow) (process : Process) (listed : slice_get rows.processes number ≡ Some row)
      (at : slice_get system.processes number ≡ Some process) where
    -- ---- variables and synonyms

    has : HasVariables (sorts_in number (parts_in tree)) row process
    has = known.processes.each number row process listed at

    variable-sound : (n : ℕ) (sort : Option Sort) → slice_get (sorts_in number (parts_in tree)) n ≡ Some sort →
        (v : Variable) × (slice_get process.variables.items n ≡ Some v) × (sort ≡ Some v.sort)
    variable-sound n sort found =
        let v = mapped-back some_sort process.variables.items n sort
        (ap (λ list. slice_get list n) has.variables ∙ found) in
        (v.0, v.1, sym v.2)

    -- the scope is that of the process, or round it
    abbrev IsRound : ScopeId → Type 0
    IsRound scope.System = Unit {0}
    IsRound (scope.Block block) = Unit {0}
    IsRound (scope.Process other) = other.0 ≡ number

    same-number : (k : ℕ) (place : ScopeId) → IsRound place → is_same_scope (scope_of_process k) place ≡ true →
        k ≡ number
    same-number k scope.System round same = absurd (let never : ⊥ = cc in never)
    same-number k (scope.Block block) round same = absurd (let never : ⊥ = cc in never)
    same-number k (scope.Process other) round same = eqb-true k other.0 same ∙ round

    abbrev IsSoundEntry : ValueEntry → Type 0
    IsSoundEntry one = IsSoundValue process (value_meaning constants one)

    entry-sound : (place own : ScopeId) (one : ValueEntry) → IsRound place →
        IsPlaced (parts_in tree) own one × IsListed rows.synonyms one → is_same_scope own place ≡ true →
        IsSoundEntry one
    entry-sound place own (entry.Variable n sort) round both same =
        let k = both.0.0 in
        let here : k ≡ number = same-number k place round
        (ap (λ s. is_same_scope s place) (sym both.0.1) ∙ same) in
        variable-sound n.0 sort (ap (λ j. slice_get (sorts_in j (parts_in tree)) n.0) (sym here) ∙ both.0.2)
    entry-sound place own (entry.Synonym n sort) round both same =
        synonym-sound tree symbols constants is n sort both.1

    rows-sound : (place : ScopeId) → IsRound place →
        Each (λ (one : Entry ValueEntry). is_same_scope one.scope place ≡ true → IsSoundEntry one.what)
        (value_entries rows)
    rows-sound place round =
        each-map (λ (row : ValueRow). IsPlacedRow (parts_in tree) row × IsListedRow rows.synonyms row)
        (λ (one : Entry ValueEntry). is_same_scope one.scope place ≡ true → IsSoundEntry one.what) value_entry
        (λ row both. entry-sound place row.scope row.entry round both) rows.values
        (each-and (IsPlacedRow (parts_in tree)) (IsListedRow rows.synonyms) rows.values
        (all-placed (parts_in tree) (tree-walk tree)) (values-listed 0 0 (parts_in tree) [] rows.synonyms refl refl))

    names-sound : (place : ScopeId) → IsRound place → EachMeans IsSoundEntry (names_of symbols.values place)
    names-sound place round =
        subst (EachMeans IsSoundEntry) (sym (is.named.values place))
        (entries-at IsSoundEntry place (value_entries rows) (rows-sound place round))

    block-sound : (block : Option BlockId) → EachMeans IsSoundEntry (block_names symbols.values block)
    block-sound None = tt
    block-sound (Some block) = names-sound (scope.Block block) tt

    values-sound : (block : Option BlockId) → EachMeans IsSoundEntry
        (process_names symbols.values (Some (the_process number))
        ++ (block_names symbols.values block ++ names_of symbols.values scope.System))
    values-sound block =
        means-both IsSoundEntry (process_names symbols.values (Some (the_process number)))
        (block_names symbols.values block ++ names_of symbols.values scope.System)
        (names-sound (scope_of_process number) refl)
        (means-both IsSoundEntry (block_names symbols.values block) (names_of symbols.values scope.System)
        (block-sound block) (names-sound scope.System tt))

    -- ---- all names

    pub scope-sound : IsSoundScope system process (scope_in rows symbols constants (scope_of_process number))
    scope-sound =
        let path = path_of rows.processes (scope_of_process number) in
        let sorts = sorts-given tree is.sorts in
        record {
          values = λ text found.
              found-mean (value_meaning constants) (IsSoundValue process) (seen_in symbols.values path) text found
              (values-sound path.block);
          signals =
              seen-is signal_meaning (IsSoundSignal system) symbols.signals path
              (meant-mean signal_meaning (IsSoundSignal system) symbols.signals (signal_entries rows) is.named.signals
              (signals-sound system (length rows.processes) rows.signals (all_durations rows symbols constants)
              (length-map rows.signals (duration_at rows symbols constants)) known.signals sorts.signals
              (walk-timed (tree-walk tree) (length rows.processes) counted)));
          agents =
              seen-is agent_meaning (IsSoundAgent system) symbols.agents path
              (meant-mean agent_meaning (IsSoundAgent system) symbols.agents (agent_entries rows) is.named.agents
              (agents-sound system rows.processes (λ k. sorts_in k (parts_in tree)) known.processes rows.agents
              (walk-agents (tree-walk tree) (length rows.processes) counted)));
        }
