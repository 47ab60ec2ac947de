-- The labels and the states that the scope of a process has are its own.
use Rattle.std.proofs.Common.{◌≡◌, ◌∙◌, ◌++◌, ◌==◌, ◌&&◌, ◌||◌, ◌<◌, ℕ, zero, suc, ◌+◌, Bool, true, false, List, [], ◌∷◌, Some, flat_map, map, slice_get, refl, ap, sym, subst, inl, inr, arith}
use Rattle.std.proofs.lemmas.Bool.Decides.{nat_tests}
use Rattle.std.proofs.lemmas.Grind.{flat_map-append}
use Rattle.std.proofs.lemmas.List.{append-nil, append_assoc, map-append}
use Rattle.std.proofs.lemmas.Slice.Eq.{bytes_eq-Decides}
use Rattle.std.specs.List.{list_any}
use Rattle.std.specs.Str.{bytes_eq}
use Rattle.build_process.proofs.CloseLemmas.{no-fault}
use Rattle.build_process.specs.Numbered.{AreDifferent, numbered}
use Rattle.laws_complete.proofs.EmptyLemmas.{right-empty}
use Rattle.laws_complete.proofs.RunLemmas.{IsOther, Run, nothing, other, process, the_process, tree-run}
use Rattle.laws_complete.specs.Names.{HasLabels, IsFaultless, numbered_states, rows_of_tree}
use Rattle.build_definitions.specs.Parts.{OfProcess, Placed, parts_in, placed}
use Rattle.build_definitions.specs.Rows.{ProcessRow, label_rows, placed_labels, placed_processes, placed_states, process_row, state_rows}
use Rattle.build_names.specs.Labels.{process_labels}
use Rattle.build_definitions.specs.Entries.{Entry, Standing, duplicates, duplicates_behind, entries_in, entry_in, is_same_name, standing, standings}
use Rattle.build_definitions.specs.Meanings.{label_entries, label_entry, state_entries, state_entry}
use Rattle.build_definitions.specs.declared.symbols.symbol_table.SymbolTable.{SymbolTable}
use Rattle.build_names.proofs.FaultLemmas.{in-left, in-right}
use Rattle.build_names.specs.FaultLaws.{In}
use Rattle.build_names.specs.Faults.{fault_if}
use Rattle.build_names.specs.States.{different, state_names}
use Rattle.build_names.specs.declared.faults.fault.Rule.TheVariants.{Duplicate}
use Rattle.build_expressions.specs.declared.scope.Constant.{Constant}
use Rattle.build_names.specs.Spaces.{entry_if, names_of}
use Rattle.build_names.specs.declared.scopes.scope.ScopeId.{ScopeId}
use Rattle.build_names.specs.declared.scopes.scope.ScopeId.TheVariants as scope
use Rattle.sdl_system.specs.declared.id.LabelId.{LabelId}
use Rattle.sdl_system.specs.declared.id.ProcessId.{ProcessId}
use Rattle.sdl_system.specs.declared.id.StateId.{StateId}
use Rattle.sdl_tree.specs.Tree.{ProcessDefinition, Tree}
use Rattle.sdl_tree.specs.Words.{Spot}

-- ---- numbers

number-same : (a : ℕ) → (a == a) ≡ true
number-same a = grind (arith, nat_tests)

number-below : (a b : ℕ) → b < a → (a == b) ≡ false
number-below a b below = grind (arith, nat_tests)

number-above : (a b : ℕ) → a < b → (a == b) ≡ false
number-above a b above = grind (arith, nat_tests)

-- ---- what stands in one scope

entry-there : {T : Type 0} (is : Bool) (text : List ℕ) (what : T) (rest more : List (List ℕ × T)) → is ≡ true →
    rest ≡ more → entry_if is text what ++ rest ≡ (text, what) ∷ more
entry-there true text what rest more holds same = ap (λ names. (text, what) ∷ names) same
entry-there false text what rest more holds same = cc

entry-not : {T : Type 0} (is : Bool) (text : List ℕ) (what : T) (rest : List (List ℕ × T)) → is ≡ false →
    rest ≡ [] → entry_if is text what ++ rest ≡ []
entry-not true text what rest fails same = cc
entry-not false text what rest fails same = same

label-names : (number : ProcessId) (from : ℕ) (names : List Spot) →
    entries_in (scope.Process number) (map label_entry (label_rows number from names)) ≡ numbered from names
label-names number from [] = refl
label-names number from (name ∷ names) =
    let own : LabelId = record { 0 = from } in
    entry-there (number.0 == number.0) name.text own
    (entries_in (scope.Process number) (map label_entry (label_rows number (from + 1) names)))
    (numbered (from + 1) names) (number-same number.0) (label-names number (from + 1) names)

label-others : (number another : ProcessId) (from : ℕ) (names : List Spot) → (number.0 == another.0) ≡ false →
    entries_in (scope.Process another) (map label_entry (label_rows number from names)) ≡ []
label-others number another from [] apart = refl
label-others number another from (name ∷ names) apart =
    let own : LabelId = record { 0 = from } in
    entry-not (number.0 == another.0) name.text own
    (entries_in (scope.Process another) (map label_entry (label_rows number (from + 1) names)))
    apart (label-others number another (from + 1) names apart)

state-names : (number : ProcessId) (from : ℕ) (names : List Spot) →
    entries_in (scope.Process number) (map state_entry (state_rows number from names)) ≡ numbered_states from names
state-names number from [] = refl
state-names number from (name ∷ names) =
    let own : StateId = record { 0 = from } in
    entry-there (number.0 == number.0) name.text own
    (entries_in (scope.Process number) (map state_entry (state_rows number (from + 1) names)))
    (numbered_states (from + 1) names) (number-same number.0) (state-names number (from + 1) names)

state-others : (number another : ProcessId) (from : ℕ) (names : List Spot) → (number.0 == another.0) ≡ false →
    entries_in (scope.Process another) (map state_entry (state_rows number from names)) ≡ []
state-others number another from [] apart = refl
state-others number another from (name ∷ names) apart =
    let own : StateId = record { 0 = from } in
    entry-not (number.0 == another.0) name.text own
    (entries_in (scope.Process another) (map state_entry (state_rows number (from + 1) names)))
    apart (state-others number another (from + 1) names apart)

-- ---- what the scope of a process has

same-some : {A : Type 0} (a b : A) → Some a ≡ Some b → a ≡ b
same-some a b same = cc

module _ {T : Type 0} (f : Placed → List (Entry T)) (own : ProcessDefinition → List (List ℕ × T))
    (has : (place : ScopeId) (number : ProcessId) (d : ProcessDefinition)
    → entries_in (scope.Process number) (f (placed place (OfProcess number d))) ≡ own d)
    (has_not : (place : ScopeId) (number another : ProcessId) (d : ProcessDefinition)
    → (number.0 == another.0) ≡ false
    → entries_in (scope.Process another) (f (placed place (OfProcess number d))) ≡ [])
    (none : (one : Placed) → IsOther one → f one ≡ []) where
  before-none : {n m : ℕ} {parts : List Placed} → Run n parts m → (j : ℕ) → j < n →
      entries_in (scope.Process (the_process j)) (flat_map f parts) ≡ []
  before-none (nothing n) j below = refl
  before-none (other n m one rest is run) j below =
      ap (λ es. entries_in (scope.Process (the_process j)) (es ++ flat_map f rest)) (none one is)
      ∙ before-none run j below
  before-none (process n m place d rest groups run) j below =
      let at = scope.Process (the_process j) in
      flat_map-append (entry_in at) (f (placed place (OfProcess (the_process n) d))) (flat_map f rest)
      ∙ ap (λ names. names ++ entries_in at (flat_map f rest))
      (has_not place (the_process n) (the_process j) d (number-below n j below))
      ∙ before-none run j (omega arith)

  pub own-names : {n m : ℕ} {parts : List Placed} → Run n parts m → (i j : ℕ) (row : ProcessRow) →
      slice_get (flat_map placed_processes parts) i ≡ Some row → j ≡ n + i →
      entries_in (scope.Process (the_process j)) (flat_map f parts) ≡ own row.definition
  own-names (nothing n) zero j row at is = cc
  own-names (nothing n) (suc i) j row at is = cc
  own-names (other n m one rest it run) i j row at is =
      ap (λ es. entries_in (scope.Process (the_process j)) (es ++ flat_map f rest)) (none one it)
      ∙ own-names run i j row
      (sym (ap (λ ps. slice_get (ps ++ flat_map placed_processes rest) i) it.process) ∙ at) is
  own-names (process n m place d rest groups run) zero j row at is =
      let here = scope.Process (the_process n) in
      let same : j ≡ n = omega arith in
      ap (λ k. entries_in (scope.Process (the_process k))
      (flat_map f (placed place (OfProcess (the_process n) d) ∷ rest)))
      same
      ∙ flat_map-append (entry_in here) (f (placed place (OfProcess (the_process n) d))) (flat_map f rest)
      ∙ ap (λ names. entries_in here (f (placed place (OfProcess (the_process n) d))) ++ names)
      (before-none run n (omega arith))
      ∙ append-nil (entries_in here (f (placed place (OfProcess (the_process n) d))))
      ∙ has place (the_process n) d
      ∙ ap (λ (r : ProcessRow). own r.definition) (same-some (process_row place d) row at)
  own-names (process n m place d rest groups run) (suc i) j row at is =
      let here = scope.Process (the_process j) in
      flat_map-append (entry_in here) (f (placed place (OfProcess (the_process n) d))) (flat_map f rest)
      ∙ ap (λ names. names ++ entries_in here (flat_map f rest))
      (has_not place (the_process n) (the_process j) d (number-above n j (omega arith)))
      ∙ own-names run i j row at (omega arith)

map-each : {A B C : Type 0} (g : B → C) (f : A → List B) (xs : List A) →
    map g (flat_map f xs) ≡ flat_map (λ x. map g (f x)) xs
map-each g f [] = refl
map-each g f (x ∷ xs) =
    map-append g (f x) (flat_map f xs) ∙ ap (λ rest. map g (f x) ++ rest) (map-each g f xs)

labels-are : (tree : Tree) (number : ℕ) (row : ProcessRow) → slice_get (rows_of_tree tree).processes number ≡ Some row →
    entries_in (scope.Process (the_process number)) (label_entries (rows_of_tree tree))
    ≡ numbered 0 (process_labels row.definition)
labels-are tree number row at =
    ap (entries_in (scope.Process (the_process number))) (map-each label_entry placed_labels (parts_in tree))
    ∙ own-names (λ one. map label_entry (placed_labels one)) (λ d. numbered 0 (process_labels d))
    (λ place n d. label-names n 0 (process_labels d))
    (λ place n another d apart. label-others n another 0 (process_labels d) apart)
    (λ one is. ap (map label_entry) is.label) (tree-run tree) number number row at (omega arith)

states-are : (tree : Tree) (number : ℕ) (row : ProcessRow) → slice_get (rows_of_tree tree).processes number ≡ Some row →
    entries_in (scope.Process (the_process number)) (state_entries (rows_of_tree tree))
    ≡ numbered_states 0 (different (state_names row.definition))
states-are tree number row at =
    ap (entries_in (scope.Process (the_process number))) (map-each state_entry placed_states (parts_in tree))
    ∙ own-names (λ one. map state_entry (placed_states one)) (λ d. numbered_states 0 (different (state_names d)))
    (λ place n d. state-names n 0 (different (state_names d)))
    (λ place n another d apart. state-others n another 0 (different (state_names d)) apart)
    (λ one is. ap (map state_entry) is.state) (tree-run tree) number number row at (omega arith)

-- ---- no two labels have one name

or-left : (a b : Bool) → a ≡ true → (a || b) ≡ true
or-left true b is = refl
or-left false b is = cc

or-right : (a b : Bool) → b ≡ true → (a || b) ≡ true
or-right true b is = refl
or-right false b is = is

any-of : {A : Type 0} (test : A → Bool) (xs : List A) (one : A) → In one xs → test one ≡ true → list_any test xs ≡ true
any-of test [] one at is = absurd at
any-of test (x ∷ xs) one at is =
    elim at [
      | inl same ↦ or-left (test x) (list_any test xs) (subst (λ y. test y ≡ true) same is)
      | inr later ↦ or-right (test x) (list_any test xs) (any-of test xs one later is)
    ]

both-are : (a b : Bool) → a ≡ true → b ≡ true → (a && b) ≡ true
both-are true b left right = right
both-are false b left right = left

behind-both : (before xs ys : List Standing) → duplicates_behind before (xs ++ ys) ≡ [] →
    (duplicates_behind before xs ≡ []) × (duplicates_behind (before ++ xs) ys ≡ [])
behind-both before [] ys none =
    (refl, ap (λ names. duplicates_behind names ys) (append-nil before) ∙ none)
behind-both before (x ∷ xs) ys none =
    let known = list_any (is_same_name x) before in
    let f = no-fault known Duplicate x.name (duplicates_behind (before ++ x ∷ []) (xs ++ ys)) none in
    let r = behind-both (before ++ x ∷ []) xs ys f.1 in (
      ap (λ is. fault_if is Duplicate x.name ++ duplicates_behind (before ++ x ∷ []) xs) f.0 ∙ r.0,
      ap (λ names. duplicates_behind names ys) (sym (append_assoc before (x ∷ []) xs)) ∙ r.1,
    )

abbrev label_at : ProcessId → Spot → Standing
label_at number name = record { scope = scope.Process number; name = name }

abbrev labels_standing : ProcessId → ℕ → List Spot → List Standing
labels_standing number from names = standings (map label_entry (label_rows number from names))

true-false : true ≡ false → ⊥
true-false same = cc

same-name : (number : ProcessId) (one another : Spot) → one.text ≡ another.text →
    is_same_name (label_at number one) (label_at number another) ≡ true
same-name number one another same =
    both-are (number.0 == number.0) (bytes_eq one.text another.text) (number-same number.0)
    ((bytes_eq-Decides one.text another.text).1 same)

-- no later one has the name of one before
new-names : (number : ProcessId) (before : List Standing) (from : ℕ) (names : List Spot) →
    duplicates_behind before (labels_standing number from names) ≡ [] → (x : Spot) → In (label_at number x) before →
    (n : ℕ) (word : Spot) → slice_get names n ≡ Some word → word.text ≡ x.text → ⊥
new-names number before from [] none x at zero word is same = cc
new-names number before from [] none x at (suc n) word is same = cc
new-names number before from (y ∷ names) none x at zero word is same =
    let f = no-fault (list_any (is_same_name (label_at number y)) before) Duplicate y
    (duplicates_behind (before ++ label_at number y ∷ []) (labels_standing number (from + 1) names)) none in
    true-false (sym (any-of (is_same_name (label_at number y)) before (label_at number x) at
    (same-name number y x (ap (λ (w : Spot). w.text) (same-some y word is) ∙ same))) ∙ f.0)
new-names number before from (y ∷ names) none x at (suc n) word is same =
    let f = no-fault (list_any (is_same_name (label_at number y)) before) Duplicate y
    (duplicates_behind (before ++ label_at number y ∷ []) (labels_standing number (from + 1) names)) none in
    new-names number (before ++ label_at number y ∷ []) (from + 1) names f.1 x
    (in-left (label_at number x) before (label_at number y ∷ []) at) n word is same

labels-differ : (number : ProcessId) (before : List Standing) (from : ℕ) (names : List Spot) →
    duplicates_behind before (labels_standing number from names) ≡ [] → AreDifferent names
labels-differ number before from [] none zero m one another at at_other same = cc
labels-differ number before from [] none (suc n) m one another at at_other same = cc
labels-differ number before from (y ∷ names) none zero zero one another at at_other same = refl
labels-differ number before from (y ∷ names) none zero (suc m) one another at at_other same =
    let f = no-fault (list_any (is_same_name (label_at number y)) before) Duplicate y
    (duplicates_behind (before ++ label_at number y ∷ []) (labels_standing number (from + 1) names)) none in
    absurd (new-names number (before ++ label_at number y ∷ []) (from + 1) names f.1 y
    (in-right (label_at number y) before (label_at number y ∷ []) (inl refl)) m another at_other
    (sym same ∙ ap (λ (w : Spot). w.text) (sym (same-some y one at))))
labels-differ number before from (y ∷ names) none (suc n) zero one another at at_other same =
    let f = no-fault (list_any (is_same_name (label_at number y)) before) Duplicate y
    (duplicates_behind (before ++ label_at number y ∷ []) (labels_standing number (from + 1) names)) none in
    absurd (new-names number (before ++ label_at number y ∷ []) (from + 1) names f.1 y
    (in-right (label_at number y) before (label_at number y ∷ []) (inl refl)) n one at
    (same ∙ ap (λ (w : Spot). w.text) (sym (same-some y another at_other))))
labels-differ number before from (y ∷ names) none (suc n) (suc m) one another at at_other same =
    let f = no-fault (list_any (is_same_name (label_at number y)) before) Duplicate y
    (duplicates_behind (before ++ label_at number y ∷ []) (labels_standing number (from + 1) names)) none in
    ap suc (labels-differ number (before ++ label_at number y ∷ []) (from + 1) names f.1 n m one another at
    at_other same)

differ-here : (n : ℕ) (place : ScopeId) (d : ProcessDefinition) (before : List Standing) (rest : List Placed) →
    duplicates_behind before (labels_standing (the_process n) 0 (process_labels d)) ≡ [] → (i : ℕ) (row : ProcessRow) →
    slice_get (process_row place d ∷ flat_map placed_processes rest) i ≡ Some row →
    ((k : ℕ) → slice_get (flat_map placed_processes rest) k ≡ Some row → AreDifferent (process_labels row.definition)) →
    AreDifferent (process_labels row.definition)
differ-here n place d before rest none zero row at later =
    subst (λ (r : ProcessRow). AreDifferent (process_labels r.definition)) (same-some (process_row place d) row at)
    (labels-differ (the_process n) before 0 (process_labels d) none)
differ-here n place d before rest none (suc i) row at later = later i at

differ-in : {n m : ℕ} {parts : List Placed} → Run n parts m → (before : List Standing) →
    duplicates_behind before (standings (map label_entry (flat_map placed_labels parts))) ≡ [] → (i : ℕ)
    (row : ProcessRow) → slice_get (flat_map placed_processes parts) i ≡ Some row →
    AreDifferent (process_labels row.definition)
differ-in (nothing n) before none zero row at = cc
differ-in (nothing n) before none (suc i) row at = cc
differ-in (other n m one rest is run) before none i row at =
    differ-in run before
    (sym (ap (λ rows. duplicates_behind before (standings (map label_entry (rows ++ flat_map placed_labels rest))))
    is.label)
    ∙ none)
    i row (sym (ap (λ ps. slice_get (ps ++ flat_map placed_processes rest) i) is.process) ∙ at)
differ-in (process n m place d rest groups run) before none i row at =
    let own = label_rows (the_process n) 0 (process_labels d) in
    let later = flat_map placed_labels rest in
    let split : standings (map label_entry (own ++ later))
    ≡ standings (map label_entry own) ++ standings (map label_entry later) =
    ap standings (map-append label_entry own later) ∙ map-append standing (map label_entry own)
    (map label_entry later) in
    let both = behind-both before (standings (map label_entry own)) (standings (map label_entry later))
    (sym (ap (duplicates_behind before) split) ∙ none) in
    differ-here n place d before rest both.0 i row at
    (λ k found. differ-in run (before ++ standings (map label_entry own)) both.1 k row found)

pub labels-given : (tree : Tree) (symbols : SymbolTable) (constants : List Constant) →
    IsFaultless tree symbols constants →
    (number : ℕ) (row : ProcessRow) → slice_get (rows_of_tree tree).processes number ≡ Some row →
    HasLabels symbols number row
labels-given tree symbols constants is number row at =
    record {
      numbers = is.named.labels (scope.Process (the_process number)) ∙ labels-are tree number row at;
      different =
          differ-in (tree-run tree) []
          (right-empty _ (duplicates (standings (label_entries (rows_of_tree tree)))) is.duplicates) number row at;
    }

pub states-given : (tree : Tree) (symbols : SymbolTable) (constants : List Constant) →
    IsFaultless tree symbols constants →
    (number : ℕ) (row : ProcessRow) → slice_get (rows_of_tree tree).processes number ≡ Some row →
    names_of symbols.states (scope.Process (record { 0 = number }))
    ≡ numbered_states 0 (different (state_names row.definition))
states-given tree symbols constants is number row at =
    is.named.states (scope.Process (the_process number)) ∙ states-are tree number row at
