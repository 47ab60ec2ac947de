-- What is seen where the definitions of a specification break no rule: names with their sorts, synonyms with their
-- values, timers with their durations.
use Rattle.std.proofs.Common.{◌≡◌, ◌∙◌, ◌+◌, ◌++◌, ◌<◌, ◌≤◌, ℕ, zero, suc, ℤ, true, false, List, [], ◌∷◌, Option, None, Some, flat_map, length, map, slice_get, refl, ap, sym, subst, inl, inr, arith}
use Rattle.std.proofs.lemmas.List.{append_assoc, length-append, length-map}
use Rattle.std.proofs.lemmas.Slice.Zip.{AllZip-long}
use Rattle.std.specs.List.{AllZip}
use Rattle.std.specs.Option.{unwrap_or}
use Rattle.laws_complete.proofs.EmptyLemmas.{left-empty, none-empty, right-empty}
use Rattle.laws_complete.proofs.NameLemmas.{AllMean, each-and, each-map, has-mean, meant-mean, seen-is}
use Rattle.laws_complete.proofs.SettledLemmas.{synonyms-valued}
use Rattle.laws_complete.proofs.SortLemmas.{sorts-given}
use Rattle.laws_complete.proofs.ValueLemmas.{HaveSynonymSorts, constant-valued}
use Rattle.laws_complete.specs.Complete.{AreThere, HasDurations, HasValue, IsComplete, IsCompleteAgent, IsCompleteSignal, IsCompleteValue, IsThere}
use Rattle.laws_complete.specs.Names.{HaveSorts, IsFaultless, number_of_signal, rows_of_tree}
use Rattle.build_constants.specs.Timers.{duration_faults, duration_in, ticks_of}
use Rattle.build_definitions.specs.Parts.{Part, OfBlock, OfProcess, OfChannel, OfConnection, OfSignals, OfTimers, OfSignalList, OfSynonyms, OfSignalSet, OfParameters, OfVariables, Placed, parts_in}
use Rattle.build_definitions.specs.Rows.{AgentRow, ProcessRow, SignalKind, OrdinarySignal, OrdinaryTimer, SignalRow, ValueRow, after_synonyms, after_variables, placed_synonyms, synonym_row, synonym_values, synonyms_of, value_rows, values_of, variable_rows}
use Rattle.build_definitions.specs.Definitions.{path_of}
use Rattle.build_definitions.specs.declared.entries.Agent.{Agent}
use Rattle.build_definitions.specs.declared.entries.Agent.TheVariants as agent
use Rattle.build_constants.proofs.SynonymLemmas.{faults-of}
use Rattle.build_constants.specs.ConstantTable.{all_durations, duration_at, duration_faults_at, duration_of, sort_of_entry}
use Rattle.build_constants.specs.Scopes.{scope_in}
use Rattle.build_constants.specs.Synonyms.{IsSynonym, faults_in_row}
use Rattle.build_definitions.specs.Entries.{Entry}
use Rattle.build_definitions.specs.Meanings.{agent_entries, agent_entry, agent_means, signal_entries, signal_means, signals_from, sorts_of_row, value_entries, value_entry}
use Rattle.build_definitions.specs.declared.symbols.symbol_table.SymbolTable.{SymbolTable}
use Rattle.build_statements.specs.Contexts.{Context}
use Rattle.build_names.proofs.FaultLemmas.{each-both}
use Rattle.build_names.specs.FaultLaws.{Each, In}
use Rattle.build_names.specs.Names.{first_of}
use Rattle.build_expressions.specs.Constants.{constant_in}
use Rattle.build_expressions.specs.Scope.{AgentMeaning, SignalMeaning, agent_meaning, meaning, signal, signal_in, signal_meaning, timer, value_in, value_meaning}
use Rattle.build_expressions.specs.declared.scope.Constant.{Constant}
use Rattle.build_expressions.specs.declared.scope.Constant.TheVariants as value
use Rattle.build_expressions.specs.declared.scope.ValueEntry.{ValueEntry}
use Rattle.build_expressions.specs.declared.scope.ValueEntry.TheVariants as entry
use Rattle.build_expressions.specs.declared.scope.ValueMeaning.{ValueMeaning}
use Rattle.build_expressions.specs.declared.scope.ValueMeaning.TheVariants as meant
use Rattle.build_names.specs.declared.scopes.scope.ScopeId.{ScopeId}
use Rattle.build_constants.specs.SettledSynonyms.{scope_with, synonym_faults}
use Rattle.build_constants.specs.declared.synonyms.synonym.Synonym.{Synonym}
use Rattle.sdl_system.specs.declared.sort.Sort.{Sort}
use Rattle.sdl_system.specs.declared.sort.Sort.TheVariants as the_sort
use Rattle.sdl_tree.specs.Tree.{Expr, SynonymDefinition, Tree}
use Rattle.sdl_tree.specs.Words.{Spot}

-- ---- numbers of synonyms

abbrev IsBelow : ℕ → ValueEntry → Type 0
IsBelow most (entry.Variable number sort) = Unit {0}
IsBelow most (entry.Synonym number sort) = number.0 < most

abbrev RowBelow : ℕ → ValueRow → Type 0
RowBelow most row = IsBelow most row.entry

variables-below : (most : ℕ) (place : ScopeId) (sort : Option Sort) (initial : Option Expr) (number : ℕ)
    (names : List Spot) →
    Each (RowBelow most) (variable_rows place sort initial number names)
variables-below most place sort initial number [] = tt
variables-below most place sort initial number (name ∷ names) =
    (tt, variables-below most place sort initial (number + 1) names)

synonyms-below : (most : ℕ) (place : ScopeId) (number : ℕ) (synonyms : List SynonymDefinition) →
    number + length synonyms ≤ most → Each (RowBelow most) (synonym_values place number synonyms)
synonyms-below most place number [] within = tt
synonyms-below most place number (synonym ∷ synonyms) within =
    (omega arith, synonyms-below most place (number + 1) synonyms (omega arith))

part-below : (most s v : ℕ) (place : ScopeId) (part : Part) → after_synonyms s part ≤ most →
    Each (RowBelow most) (values_of s v place part)
part-below most s v place (OfBlock number definition) within = tt
part-below most s v place (OfProcess number definition) within = tt
part-below most s v place (OfChannel definition) within = tt
part-below most s v place (OfConnection definition) within = tt
part-below most s v place (OfSignals signals) within = tt
part-below most s v place (OfTimers timers) within = tt
part-below most s v place (OfSignalList definition) within = tt
part-below most s v place (OfSynonyms synonyms) within = synonyms-below most place s synonyms within
part-below most s v place (OfSignalSet definition) within = tt
part-below most s v place (OfParameters group) within =
    variables-below most place _ None v group.names
part-below most s v place (OfVariables group) within =
    variables-below most place _ group.initial v group.names

after-is : (s : ℕ) (place : ScopeId) (part : Part) → after_synonyms s part ≡ s + length (synonyms_of place part)
after-is s place (OfBlock number definition) = omega arith
after-is s place (OfProcess number definition) = omega arith
after-is s place (OfChannel definition) = omega arith
after-is s place (OfConnection definition) = omega arith
after-is s place (OfSignals signals) = omega arith
after-is s place (OfTimers timers) = omega arith
after-is s place (OfSignalList definition) = omega arith
after-is s place (OfSynonyms synonyms) = ap (λ n. s + n) (sym (length-map synonyms (synonym_row place)))
after-is s place (OfSignalSet definition) = omega arith
after-is s place (OfParameters group) = omega arith
after-is s place (OfVariables group) = omega arith

values-below : (most s v : ℕ) (parts : List Placed) → s + length (flat_map placed_synonyms parts) ≤ most →
    Each (RowBelow most) (value_rows s v parts)
values-below most s v [] within = tt
values-below most s v (one ∷ parts) within =
    let own = placed_synonyms one in
    let rest = flat_map placed_synonyms parts in
    let next_s = after_synonyms s one.part in
    let next_v = after_variables v one.part in
    let split = length-append own rest in
    let after = after-is s one.scope one.part in
    each-both (RowBelow most) (values_of s v one.scope one.part) (value_rows next_s next_v parts)
    (part-below most s v one.scope one.part (omega (arith, split, after)))
    (values-below most next_s next_v parts (omega (arith, split, after)))

-- ---- sorts of synonyms that are seen

abbrev SortThere : ValueMeaning → Type 0
SortThere (meant.Variable number sort) = IsThere sort
SortThere (meant.Synonym sort constant) = IsThere sort

entry-there : (constants : List Constant) (one : ValueEntry) → IsThere (sort_of_entry one) →
    SortThere (value_meaning constants one)
entry-there constants (entry.Variable number sort) there = there
entry-there constants (entry.Synonym number sort) there = there

-- ---- values of synonyms that are seen

value-at : (constants : List Constant) (n : ℕ) → Each HasValue constants → n < length constants →
    HasValue (unwrap_or (slice_get constants n) value.NoValue)
value-at [] n each below = absurd (omega arith)
value-at (c ∷ constants) zero each below = each.0
value-at (c ∷ constants) (suc n) each below = value-at constants n each.1 (omega arith)

complete-value : (constants : List Constant) → Each HasValue constants → (one : ValueEntry) →
    IsThere (sort_of_entry one) × IsBelow (length constants) one → IsCompleteValue (value_meaning constants one)
complete-value constants each (entry.Variable number sort) is = is.0
complete-value constants each (entry.Synonym number sort) is = (is.0, value-at constants number.0 each is.1)

-- ---- signals

abbrev SignalThere : SignalRow → Type 0
SignalThere row = AreThere row.sorts

complete-signal : (number : ℕ) (sorts : List (Option Sort)) (kind : SignalKind) → AreThere sorts →
    IsCompleteSignal (signal_means number sorts kind)
complete-signal number sorts OrdinarySignal there = there
complete-signal number sorts (OrdinaryTimer duration) there = there

complete-signals : (number : ℕ) (rows : List SignalRow) → Each SignalThere rows →
    Each (λ (one : Entry SignalMeaning). IsCompleteSignal one.what) (signals_from number rows)
complete-signals number [] each = tt
complete-signals number (row ∷ rows) each =
    (complete-signal number row.sorts row.kind each.0, complete-signals (number + 1) rows each.1)

-- the number of a signal stays below
abbrev SignalBelow : ℕ → SignalMeaning → Type 0
SignalBelow most found = (number_of_signal found).0 < most

signal-below : (most number : ℕ) (sorts : List (Option Sort)) (kind : SignalKind) → number < most →
    SignalBelow most (signal_means number sorts kind)
signal-below most number sorts OrdinarySignal below = below
signal-below most number sorts (OrdinaryTimer duration) below = below

signals-under : (most number : ℕ) (rows : List SignalRow) → number + length rows ≤ most →
    Each (λ (one : Entry SignalMeaning). SignalBelow most one.what) (signals_from number rows)
signals-under most number [] within = tt
signals-under most number (row ∷ rows) within =
    (signal-below most number row.sorts row.kind (omega arith), signals-under most (number + 1) rows (omega arith))

-- ---- durations

abbrev DefaultThere : List (Option ℤ) → SignalMeaning → Type 0
DefaultThere durations (signal number sorts) = Unit {0}
DefaultThere durations (timer number sorts true) = IsThere (unwrap_or (slice_get durations number.0) None)
DefaultThere durations (timer number sorts false) = Unit {0}

slice-behind : {A : Type 0} (before rest : List A) (x : A) (n : ℕ) → n ≡ length before →
    slice_get (before ++ x ∷ rest) n ≡ Some x
slice-behind [] rest x n is = ap (slice_get (x ∷ rest)) is
slice-behind (y ∷ before) rest x zero is = absurd (omega arith)
slice-behind (y ∷ before) rest x (suc n) is = slice-behind before rest x n (omega arith)

default-there : (durations : List (Option ℤ)) (number : ℕ) (sorts : List (Option Sort)) (kind : SignalKind)
    (own : Option ℤ) → slice_get durations number ≡ Some own →
    ((expression : Expr) → duration_of kind ≡ Some expression → IsThere own) →
    DefaultThere durations (signal_means number sorts kind)
default-there durations number sorts OrdinarySignal own at there = tt
default-there durations number sorts (OrdinaryTimer None) own at there = tt
default-there durations number sorts (OrdinaryTimer (Some expression)) own at there =
    subst (λ found. IsThere (unwrap_or found None)) (sym at) (there expression refl)

defaults-there : (f : SignalRow → Option ℤ) (durations before : List (Option ℤ)) (number : ℕ) (rows : List SignalRow) →
    durations ≡ before ++ map f rows → number ≡ length before →
    ((row : SignalRow) → In row rows → (expression : Expr) → duration_of row.kind ≡ Some expression → IsThere (f row)) →
    Each (λ (one : Entry SignalMeaning). DefaultThere durations one.what) (signals_from number rows)
defaults-there f durations before number [] is at there = tt
defaults-there f durations before number (row ∷ rows) is at there =
    let more = length-append before (f row ∷ []) in (
      default-there durations number row.sorts row.kind (f row)
          (ap (λ list. slice_get list number) is ∙ slice-behind before (map f rows) (f row) number at)
          (there row (inl refl)),
      defaults-there f durations (before ++ f row ∷ []) (number + 1) rows
          (is ∙ sym (append_assoc before (f row ∷ []) (map f rows))) (omega (arith, more))
          (λ other here. there other (inr here)),
    )

ticks-there : (constant : Constant) → HasValue constant → IsThere (ticks_of constant)
ticks-there (value.Value v) has = tt
ticks-there value.NoValue has = has
ticks-there value.Refused has = has

-- ---- agents

abbrev ProcessThere : ProcessRow → Type 0
ProcessThere row = AreThere row.sorts

row-there : (rows : List ProcessRow) (n : ℕ) → Each ProcessThere rows → AreThere (sorts_of_row (slice_get rows n))
row-there [] zero each = tt
row-there [] (suc n) each = tt
row-there (row ∷ rows) zero each = each.0
row-there (row ∷ rows) (suc n) each = row-there rows n each.1

complete-agent : (processes : List ProcessRow) → Each ProcessThere processes → (one : Agent) →
    IsCompleteAgent (agent_means processes one)
complete-agent processes each (agent.Block number) = tt
complete-agent processes each (agent.Process number) = row-there processes number.0 each

complete-agents : (processes : List ProcessRow) → Each ProcessThere processes → (rows : List AgentRow) →
    Each (λ (one : Entry AgentMeaning). IsCompleteAgent one.what) (map (agent_entry processes) rows)
complete-agents processes each [] = tt
complete-agents processes each (row ∷ rows) =
    (complete-agent processes each row.agent, complete-agents processes each rows)

-- ---- a specification whose definitions break no rule

zip-right : {A B : Type 0} (R : A → B → Type 0) (xs : List A) (ys : List B) → AllZip R xs ys → (y : B) → In y ys →
    (x : A) × R x y
zip-right R [] [] all y at = absurd at
zip-right R [] (z ∷ ys) all y at = absurd all
zip-right R (x ∷ xs) [] all y at = absurd all
zip-right R (x ∷ xs) (z ∷ ys) all y at =
    elim at [ inl same ↦ (x, subst (R x) (sym same) all.0) | inr later ↦ zip-right R xs ys all.1 y later ]

module _ (tree : Tree) (symbols : SymbolTable) (constants : List Constant) (is : IsFaultless tree symbols constants)
  where
    have : HaveSorts (rows_of_tree tree)
    have = sorts-given tree is.sorts

    -- sorts of synonyms
    entries-sorted : AllMean (λ (one : ValueEntry). SortThere (value_meaning constants one)) symbols.values
    entries-sorted =
        has-mean (λ (one : ValueEntry). SortThere (value_meaning constants one)) symbols.values
        (value_entries (rows_of_tree tree)) is.named.values
        (each-map (λ (row : ValueRow). IsThere (sort_of_entry row.entry))
        (λ (one : Entry ValueEntry). SortThere (value_meaning constants one.what)) value_entry
        (λ row there. entry-there constants row.entry there) (rows_of_tree tree).values have.values)

    synonym-sorted : (one : Synonym) → In one is.valued.synonyms → HaveSynonymSorts (scope_with constants one)
    synonym-sorted one at text sort constant found =
        let row = zip-right (IsSynonym symbols (rows_of_tree tree).processes) (rows_of_tree tree).synonyms
        is.valued.synonyms
        is.valued.listed one at in
        seen-is (value_meaning constants) SortThere symbols.values (path_of (rows_of_tree tree).processes row.0.scope)
        entries-sorted text (meant.Synonym sort constant)
        (sym (ap (λ names. first_of (meaning (value_meaning constants) names) text) row.1.values) ∙ found)

    synonym-faultless : (one : Synonym) → In one is.valued.synonyms → synonym_faults constants one ≡ []
    synonym-faultless one at =
        let list = (rows_of_tree tree).synonyms in
        let none = left-empty (flat_map (faults_in_row (rows_of_tree tree) symbols constants) list) _
        (left-empty _ _ (left-empty _ _ (left-empty _ _ is.constant_table))) in
        none-empty (synonym_faults constants) is.valued.synonyms
        (faults-of (rows_of_tree tree) symbols constants list is.valued.synonyms is.valued.listed ∙ none) one at

    pub all-valued : Each HasValue constants
    all-valued =
        synonyms-valued is.valued.synonyms constants is.valued.come_to synonym-sorted synonym-faultless

    as-many : length constants ≡ length (rows_of_tree tree).synonyms
    as-many =
        is.valued.come_to.all
        ∙ AllZip-long (IsSynonym symbols (rows_of_tree tree).processes) (rows_of_tree tree).synonyms is.valued.synonyms
        is.valued.listed

    -- what names stand for
    entries-complete : AllMean (λ (one : ValueEntry). IsCompleteValue (value_meaning constants one)) symbols.values
    entries-complete =
        let many = as-many in
        has-mean (λ (one : ValueEntry). IsCompleteValue (value_meaning constants one)) symbols.values
        (value_entries (rows_of_tree tree)) is.named.values
        (each-map
        (λ (row : ValueRow). IsThere (sort_of_entry row.entry) × IsBelow (length constants) row.entry)
        (λ (one : Entry ValueEntry). IsCompleteValue (value_meaning constants one.what)) value_entry
        (λ row both. complete-value constants all-valued row.entry both) (rows_of_tree tree).values
        (each-and (λ (row : ValueRow). IsThere (sort_of_entry row.entry)) (RowBelow (length constants))
        (rows_of_tree tree).values have.values
        (values-below (length constants) 0 0 (parts_in tree) (omega (arith, many)))))

    signals-complete : AllMean (λ one. IsCompleteSignal (signal_meaning one)) symbols.signals
    signals-complete =
        meant-mean signal_meaning IsCompleteSignal symbols.signals (signal_entries (rows_of_tree tree)) is.named.signals
        (complete-signals 0 (rows_of_tree tree).signals have.signals)

    agents-complete : AllMean (λ one. IsCompleteAgent (agent_meaning one)) symbols.agents
    agents-complete =
        meant-mean agent_meaning IsCompleteAgent symbols.agents (agent_entries (rows_of_tree tree)) is.named.agents
        (complete-agents (rows_of_tree tree).processes have.processes (rows_of_tree tree).agents)

    pub scopes-complete : (place : ScopeId) → IsComplete (scope_in (rows_of_tree tree) symbols constants place)
    scopes-complete place =
        let path = path_of (rows_of_tree tree).processes place in
        record {
          values = seen-is (value_meaning constants) IsCompleteValue symbols.values path entries-complete;
          signals = seen-is signal_meaning IsCompleteSignal symbols.signals path signals-complete;
          agents = seen-is agent_meaning IsCompleteAgent symbols.agents path agents-complete;
        }

    pub signals-below : (place : ScopeId) (text : List ℕ) (found : SignalMeaning) →
        signal_in (scope_in (rows_of_tree tree) symbols constants place) text ≡ Some found →
        (number_of_signal found).0 < length (rows_of_tree tree).signals
    signals-below place text found at =
        let list = (rows_of_tree tree).signals in
        seen-is signal_meaning (SignalBelow (length list)) symbols.signals
        (path_of (rows_of_tree tree).processes place)
        (meant-mean signal_meaning (SignalBelow (length list)) symbols.signals (signal_entries (rows_of_tree tree))
        is.named.signals (signals-under (length list) 0 list (omega arith))) text found at

    -- durations
    none-refused : (place : ScopeId) (text : List ℕ) (sort : Option Sort) →
        value_in (scope_in (rows_of_tree tree) symbols constants place) text ≡ Some
        (meant.Synonym sort value.Refused) → ⊥
    none-refused place text sort found =
        ((scopes-complete place).values text (meant.Synonym sort value.Refused) found).1

    sorts-seen : (place : ScopeId) → HaveSynonymSorts (scope_in (rows_of_tree tree) symbols constants place)
    sorts-seen place text sort constant found =
        ((scopes-complete place).values text (meant.Synonym sort constant) found).0

    duration-valued : (place : ScopeId) (expression : Expr) →
        duration_faults (scope_in (rows_of_tree tree) symbols constants place) (Some expression) ≡ [] →
        IsThere (duration_in (scope_in (rows_of_tree tree) symbols constants place) (Some expression))
    duration-valued place expression none =
        let scope = scope_in (rows_of_tree tree) symbols constants place in
        ticks-there (constant_in scope (Some the_sort.Duration) expression)
        (constant-valued scope (sorts-seen place) (Some the_sort.Duration) expression
        (λ name at sort found. none-refused place name.text sort found) none)

    duration-there : (row : SignalRow) → In row (rows_of_tree tree).signals → (expression : Expr) →
        duration_of row.kind ≡ Some expression → IsThere (duration_at (rows_of_tree tree) symbols constants row)
    duration-there row at expression stands =
        let scope = scope_in (rows_of_tree tree) symbols constants row.scope in
        let none = none-empty (duration_faults_at (rows_of_tree tree) symbols constants) (rows_of_tree tree).signals
        (right-empty _ (flat_map (duration_faults_at (rows_of_tree tree) symbols constants) (rows_of_tree tree).signals)
        is.constant_table) row at in
        subst (λ found. IsThere (duration_in scope found)) (sym stands)
        (duration-valued row.scope expression (sym (ap (duration_faults scope) stands) ∙ none))

    pub durations-given : (place : ScopeId) (context : Context) →
        context.scope ≡ scope_in (rows_of_tree tree) symbols constants place →
        context.durations ≡ all_durations (rows_of_tree tree) symbols constants → HasDurations context
    durations-given place context scope_is durations_are text number sorts found =
        let list = (rows_of_tree tree).signals in
        let durations = all_durations (rows_of_tree tree) symbols constants in
        subst (λ all. IsThere (unwrap_or (slice_get all number.0) None)) (sym durations_are)
        (seen-is signal_meaning (DefaultThere durations) symbols.signals (path_of (rows_of_tree tree).processes place)
        (meant-mean signal_meaning (DefaultThere durations) symbols.signals (signal_entries (rows_of_tree tree))
        is.named.signals
        (defaults-there (duration_at (rows_of_tree tree) symbols constants) durations [] 0 list refl refl
        duration-there))
        text (timer number sorts true) (sym (ap (λ scope. signal_in scope text) scope_is) ∙ found))
