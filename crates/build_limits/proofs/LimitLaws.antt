-- What is noted as a limit, and what passes one.
use Rattle.std.proofs.Common.{◌≡◌, ◌∙◌, ◌++◌, ◌≤◌, ◌≢◌, ℕ, zero, suc, Bool, true, false, List, [], ◌∷◌, Option, None, Some, flat_map, fold, if◌then◌else◌, length, map, slice_get, ap, arith, inl, inr, refl, subst, sym, zero-le}
use Rattle.std.specs.List.{list_any}
use Rattle.std.proofs.lemmas.Bool.Decides.{eqb_tells}
use Rattle.std.proofs.lemmas.List.{length-append}
use Rattle.std.proofs.lemmas.List.Sums.{fold-append}
use Rattle.std.proofs.lemmas.Option.{same_Some, slice_get_past}
use Rattle.sdl_tree.specs.Tree.{ProcessDefinition, Tree}
use Rattle.sdl_tree.specs.Words.{Spot}
use Rattle.build_names.specs.declared.faults.fault.Rule.TheVariants.{Limit}
use Rattle.build_limits.specs.Broken.{AtProcess, IsLimit, IsNewBehind, PassesLimit, StandsBehind, processes, declared, statements, sorts, parameters, states}
use Rattle.build_names.specs.Faults.{Diagnostic, diagnostic_at, diagnostic_word, limit_at, fault_at}
use Rattle.build_names.specs.FaultLaws.{Each, In}
use Rattle.build_limits.specs.Limits.{Declared, declared_faults, declared_in, declared_name, limit_faults, parameter_names, process_faults, process_name, processes_in, statements_in}
use Rattle.build_names.specs.States.{different, is_same_text, state_names, with_new}
use Rattle.build_names.proofs.FaultLemmas.{each-both, each-of, in-each, in-left, in-right}

-- ---- elements behind others

-- the element has so many before it
record Behind {A : Type 0} (most : ℕ) (xs : List A) (x : A) : Type 0 where
  before : List A
  after : List A
  in_list : xs ≡ before ++ x ∷ after
  count : length before ≡ most

behind : {A : Type 0} (most : ℕ) (xs : List A) (x : A) → slice_get xs most ≡ Some x → Behind most xs x
behind most [] x at = absurd (let no : ⊥ = cc in no)
behind zero (y ∷ ys) x at =
    let same : y ≡ x = cc in
    record { before = []; after = ys; in_list = ap (λ z. z ∷ ys) same; count = refl }
behind (suc most) (y ∷ ys) x at =
    let rest = behind most ys x at in
    record {
      before = y ∷ rest.before;
      after = rest.after;
      in_list = ap (λ zs. y ∷ zs) rest.in_list;
      count = ap suc rest.count;
    }

at-behind : {A : Type 0} (before after : List A) (x : A) → slice_get (before ++ x ∷ after) (length before) ≡ Some x
at-behind [] after x = refl
at-behind (y ∷ before) after x = at-behind before after x

got : {A : Type 0} (most : ℕ) (xs before after : List A) (x : A) → xs ≡ before ++ x ∷ after → length before ≡ most →
    slice_get xs most ≡ Some x
got most xs before after x is count =
    ap (λ ys. slice_get ys most) is
    ∙ subst (λ n. slice_get (before ++ x ∷ after) n ≡ Some x) count (at-behind before after x)

-- the element that a mapped one comes from
record From {A B : Type 0} (f : A → B) (xs : List A) (most : ℕ) (y : B) : Type 0 where
  source : A
  at : slice_get xs most ≡ Some source
  is : y ≡ f source

from : {A B : Type 0} (f : A → B) (xs : List A) (most : ℕ) (y : B) → slice_get (map f xs) most ≡ Some y →
    From f xs most y
from f [] most y at = absurd (let no : ⊥ = cc in no)
from f (x ∷ xs) zero y at = record { source = x; at = refl; is = let same : f x ≡ y = cc in sym same }
from f (x ∷ xs) (suc most) y at =
    let rest = from f xs most y at in record { source = rest.source; at = rest.at; is = rest.is }

mapped : {A B : Type 0} (f : A → B) (xs : List A) (most : ℕ) (x : A) → slice_get xs most ≡ Some x →
    slice_get (map f xs) most ≡ Some (f x)
mapped f [] most x at = absurd (let no : ⊥ = cc in no)
mapped f (y ∷ ys) zero x at = let same : y ≡ x = cc in ap (λ z. Some (f z)) same
mapped f (y ∷ ys) (suc most) x at = mapped f ys most x at

-- an element stands between others
record Stands {A : Type 0} (x : A) (xs : List A) : Type 0 where
  before : List A
  after : List A
  in_list : xs ≡ before ++ x ∷ after

stands : {A : Type 0} (x : A) (xs : List A) → In x xs → Stands x xs
stands x [] at = absurd at
stands x (y ∷ ys) at =
    elim at [
      | inl e ↦ record { before = []; after = ys; in_list = ap (λ z. z ∷ ys) (sym e) }
      | inr i ↦
          let rest = stands x ys i in
          record { before = y ∷ rest.before; after = rest.after; in_list = ap (λ zs. y ∷ zs) rest.in_list }
    ]

in-list : {A : Type 0} (xs before after : List A) (x : A) → xs ≡ before ++ x ∷ after → In x xs
in-list xs before after x is = subst (λ ys. In x ys) (sym is) (in-right x before (x ∷ after) (inl refl))

-- ---- limits at words

each-limit : (P : Diagnostic → Type 0) (past : Option Spot) →
    ((word : Spot) → past ≡ Some word → P (diagnostic_at Limit word)) → Each P (limit_at past)
each-limit P None is = tt
each-limit P (Some word) is = (is word refl, tt)

each-at : (P : Diagnostic → Type 0) (most : ℕ) (words : List Spot) →
    ((word : Spot) → slice_get words most ≡ Some word → P (diagnostic_at Limit word)) → Each P (fault_at most words)
each-at P most words is = each-limit P (slice_get words most) is

in-at : (most : ℕ) (words : List Spot) (word : Spot) → slice_get words most ≡ Some word →
    In (diagnostic_at Limit word) (fault_at most words)
in-at most words word at = subst (λ past. In (diagnostic_at Limit word) (limit_at past)) (sym at) (inl refl)

in-behind : (most : ℕ) (words : List Spot) (word : Spot) → StandsBehind most words word →
    In (diagnostic_at Limit word) (fault_at most words)
in-behind most words word at = in-at most words word (got most words at.before at.after word at.in_words at.count)

behind-words : (most : ℕ) (words : List Spot) (word : Spot) → slice_get words most ≡ Some word →
    StandsBehind most words word
behind-words most words word at =
    let there = behind most words word at in
    record { before = there.before; after = there.after; in_words = there.in_list; count = there.count }

-- ---- different names

-- these names, and one more behind them if it is not known
abbrev and_new : Bool → List Spot → Spot → List Spot
and_new known names name = if known then names else names ++ name ∷ []

and_new-keeps : (names : List Spot) (name : Spot) (i : ℕ) (word : Spot) (known : Bool) →
    slice_get names i ≡ Some word → slice_get (and_new known names name) i ≡ Some word
and_new-keeps names name i word true at = at
and_new-keeps [] name i word false at = absurd (let no : ⊥ = cc in no)
and_new-keeps (x ∷ xs) name zero word false at = at
and_new-keeps (x ∷ xs) name (suc i) word false at = and_new-keeps xs name i word false at

-- a name that was new stays where it is
fold-keeps : (names words : List Spot) (i : ℕ) (word : Spot) → slice_get names i ≡ Some word →
    slice_get (fold with_new names words) i ≡ Some word
fold-keeps names [] i word at = at
fold-keeps names (x ∷ xs) i word at =
    fold-keeps (with_new names x) xs i word (and_new-keeps names x i word (list_any (is_same_text x) names) at)

-- the word is new behind the names and some of the words, and then there are so many
record NewBehind (names words : List Spot) (most : ℕ) (word : Spot) : Type 0 where
  before : List Spot
  after : List Spot
  in_words : words ≡ before ++ word ∷ after
  is_new : list_any (is_same_text word) (fold with_new names before) ≡ false
  count : length (fold with_new names before) ≡ most

-- one more word before it
new-after : (names : List Spot) (x : Spot) (xs : List Spot) (most : ℕ) (word : Spot) (known : Bool) →
    list_any (is_same_text x) names ≡ known → NewBehind (and_new known names x) xs most word →
    NewBehind names (x ∷ xs) most word
new-after names x xs most word known is rest = record {
  before = x ∷ rest.before;
  after = rest.after;
  in_words = ap (λ ys. x ∷ ys) rest.in_words;
  is_new = subst (λ b. list_any (is_same_text word) (fold with_new (and_new b names x) rest.before) ≡ false) (sym is)
      rest.is_new;
  count = subst (λ b. length (fold with_new (and_new b names x) rest.before) ≡ most) (sym is) rest.count;
}

-- it is the next word
new-next : (names : List Spot) (x : Spot) (xs : List Spot) (most : ℕ) (word : Spot) →
    list_any (is_same_text x) names ≡ false → length names ≡ most →
    slice_get (fold with_new (names ++ x ∷ []) xs) most ≡ Some word → NewBehind names (x ∷ xs) most word
new-next names x xs most word unknown here at =
    let found : slice_get (fold with_new (names ++ x ∷ []) xs) most ≡ Some x =
    subst (λ n. slice_get (fold with_new (names ++ x ∷ []) xs) n ≡ Some x) here
    (fold-keeps (names ++ x ∷ []) xs (length names) x (at-behind names [] x)) in
    let same : x ≡ word = same_Some x word (sym found ∙ at) in
    record {
      before = [];
      after = xs;
      in_words = ap (λ y. y ∷ xs) same;
      is_new = subst (λ y. list_any (is_same_text y) names ≡ false) same unknown;
      count = here;
    }

-- what is looked for: where the list of different names has a word at this index, the word is new there
abbrev FindsNew : List Spot → List Spot → ℕ → Spot → Type 0
FindsNew names words most word =
    length names ≤ most → slice_get (fold with_new names words) most ≡ Some word → NewBehind names words most word

new-one : (names : List Spot) (x : Spot) (xs : List Spot) (most : ℕ) (word : Spot) (known : Bool) →
    list_any (is_same_text x) names ≡ known → FindsNew names xs most word → FindsNew (names ++ x ∷ []) xs most word →
    length names ≤ most → slice_get (fold with_new (and_new known names x) xs) most ≡ Some word →
    NewBehind names (x ∷ xs) most word
new-one names x xs most word true is old new few at = new-after names x xs most word true is (old few at)
new-one names x xs most word false is old new few at =
    elim (eqb_tells (length names) most) [
      | inl here ↦ new-next names x xs most word is here.1 at
      | inr there ↦
          let other : length names ≢ most = there.1 in
          let fits : length (names ++ x ∷ []) ≤ most = omega (arith, length-append names (x ∷ [])) in
          new-after names x xs most word false is (new fits at)
    ]

new-behind : (names words : List Spot) (most : ℕ) (word : Spot) → FindsNew names words most word
new-behind names [] most word few at =
    let past : slice_get names most ≡ None = slice_get_past names most few in
    absurd (let no : ⊥ = cc in no)
new-behind names (x ∷ xs) most word few at =
    new-one names x xs most word (list_any (is_same_text x) names) refl
    (new-behind names xs most word) (new-behind (names ++ x ∷ []) xs most word) few at

new-at : (before after : List Spot) (word : Spot) → list_any (is_same_text word) (different before) ≡ false →
    slice_get (different (before ++ word ∷ after)) (length (different before)) ≡ Some word
new-at before after word is_new =
    let names = different before in
    ap (λ xs. slice_get xs (length names)) (fold-append with_new [] before (word ∷ after))
    ∙ subst (λ b. slice_get (fold with_new (and_new b names word) after) (length names) ≡ Some word) (sym is_new)
    (fold-keeps (names ++ word ∷ []) after (length names) word (at-behind names [] word))

new-got : (most : ℕ) (words : List Spot) (word : Spot) → IsNewBehind most words word →
    slice_get (different words) most ≡ Some word
new-got most words word at =
    ap (λ ws. slice_get (different ws) most) at.in_words
    ∙ subst (λ n. slice_get (different (at.before ++ word ∷ at.after)) n ≡ Some word) at.count
    (new-at at.before at.after word at.is_new)

-- ---- each limit of the list is passed

limit-of : (tree : Tree) (word : Spot) → PassesLimit tree word → IsLimit tree (diagnostic_at Limit word)
limit-of tree word passed = record { rule = refl; passed = passed }

process-limit : (tree : Tree) (word : Spot) → slice_get (map process_name (processes_in tree)) 200 ≡ Some word →
    IsLimit tree (diagnostic_at Limit word)
process-limit tree word at =
    let one = from process_name (processes_in tree) 200 word at in
    let there = behind 200 (processes_in tree) one.source one.at in
    limit-of tree word (processes (record {
      before = there.before;
      process = one.source;
      after = there.after;
      in_tree = there.in_list;
      broken = (there.count, one.is);
    }))

declared-limit : (tree : Tree) (word : Spot) → slice_get (map declared_name (declared_in tree)) 1000 ≡ Some word →
    IsLimit tree (diagnostic_at Limit word)
declared-limit tree word at =
    let one = from declared_name (declared_in tree) 1000 word at in
    let there = behind 1000 (declared_in tree) one.source one.at in
    limit-of tree word (declared (record {
      before = there.before;
      declared = one.source;
      after = there.after;
      in_tree = there.in_list;
      broken = (there.count, one.is);
    }))

statement-limit : (tree : Tree) (word : Spot) → slice_get (statements_in tree) 50000 ≡ Some word →
    IsLimit tree (diagnostic_at Limit word)
statement-limit tree word at = limit-of tree word (statements (behind-words 50000 (statements_in tree) word at))

sort-limit : (tree : Tree) (one : Declared) (word : Spot) → In one (declared_in tree) →
    slice_get one.sorts 16 ≡ Some word → IsLimit tree (diagnostic_at Limit word)
sort-limit tree one word there at =
    let place = stands one (declared_in tree) there in
    limit-of tree word (sorts (record {
      before = place.before;
      declared = one;
      after = place.after;
      in_tree = place.in_list;
      broken = behind-words 16 one.sorts word at;
    }))

-- what is so of a process of the specification
at-process : (P : List ProcessDefinition → ProcessDefinition → Spot → Type 0) (tree : Tree)
    (process : ProcessDefinition) (word : Spot) → In process (processes_in tree) →
    ((before : List ProcessDefinition) → P before process word) → AtProcess P tree word
at-process P tree process word there broken =
    let place = stands process (processes_in tree) there in
    record {
      before = place.before;
      process = process;
      after = place.after;
      in_tree = place.in_list;
      broken = broken place.before;
    }

parameter-limit : (tree : Tree) (process : ProcessDefinition) (word : Spot) → In process (processes_in tree) →
    slice_get (parameter_names process.parameters) 16 ≡ Some word → IsLimit tree (diagnostic_at Limit word)
parameter-limit tree process word there at =
    limit-of tree word (parameters (at-process (λ before p name. StandsBehind 16 (parameter_names p.parameters) name)
    tree process word there (λ before. behind-words 16 (parameter_names process.parameters) word at)))

new-words : (words : List Spot) (most : ℕ) (word : Spot) → slice_get (different words) most ≡ Some word →
    IsNewBehind most words word
new-words words most word at =
    let new = new-behind [] words most word zero-le at in
    record {
      before = new.before;
      after = new.after;
      in_words = new.in_words;
      is_new = new.is_new;
      count = new.count;
    }

state-limit : (tree : Tree) (process : ProcessDefinition) (word : Spot) → In process (processes_in tree) →
    slice_get (different (state_names process)) 1000 ≡ Some word → IsLimit tree (diagnostic_at Limit word)
state-limit tree process word there at =
    limit-of tree word (states (at-process (λ before p name. IsNewBehind 1000 (state_names p) name)
    tree process word there (λ before. new-words (state_names process) 1000 word at)))

process-limits : (tree : Tree) (process : ProcessDefinition) → In process (processes_in tree) →
    Each (IsLimit tree) (process_faults process)
process-limits tree process there =
    each-both (IsLimit tree) _ (fault_at 1000 (different (state_names process)))
    (each-at (IsLimit tree) 16 (parameter_names process.parameters)
    (λ word. parameter-limit tree process word there))
    (each-at (IsLimit tree) 1000 (different (state_names process)) (λ word. state-limit tree process word there))

pub listed-broken : (tree : Tree) → Each (IsLimit tree) (limit_faults tree)
listed-broken tree =
    each-both (IsLimit tree) _ _
    (each-both (IsLimit tree) _ _
    (each-both (IsLimit tree) _ _
    (each-both (IsLimit tree) _ _
    (each-at (IsLimit tree) 200 (map process_name (processes_in tree)) (process-limit tree))
    (each-at (IsLimit tree) 1000 (map declared_name (declared_in tree)) (declared-limit tree)))
    (each-at (IsLimit tree) 50000 (statements_in tree) (statement-limit tree)))
    (each-of (IsLimit tree) declared_faults (declared_in tree) (λ one there.
    each-at (IsLimit tree) 16 one.sorts (λ word. sort-limit tree one word there))))
    (each-of (IsLimit tree) process_faults (processes_in tree) (process-limits tree))

-- ---- each limit that is passed is in the list

abbrev first_two : Tree → List Diagnostic
first_two tree =
    fault_at 200 (map process_name (processes_in tree))
    ++ fault_at 1000 (map declared_name (declared_in tree))

abbrev first_three : Tree → List Diagnostic
first_three tree = first_two tree ++ fault_at 50000 (statements_in tree)

abbrev first_four : Tree → List Diagnostic
first_four tree = first_three tree ++ flat_map declared_faults (declared_in tree)

in-four : (tree : Tree) (fault : Diagnostic) → In fault (first_four tree) → In fault (limit_faults tree)
in-four tree fault at = in-left fault (first_four tree) (flat_map process_faults (processes_in tree)) at

in-three : (tree : Tree) (fault : Diagnostic) → In fault (first_three tree) → In fault (limit_faults tree)
in-three tree fault at =
    in-four tree fault (in-left fault (first_three tree) (flat_map declared_faults (declared_in tree)) at)

in-two : (tree : Tree) (fault : Diagnostic) → In fault (first_two tree) → In fault (limit_faults tree)
in-two tree fault at = in-three tree fault (in-left fault (first_two tree) (fault_at 50000 (statements_in tree)) at)

in-process : (P : List ProcessDefinition → ProcessDefinition → Spot → Type 0) (tree : Tree) (word : Spot)
    (at : AtProcess P tree word) → In (diagnostic_at Limit word) (process_faults at.process) →
    In (diagnostic_at Limit word) (limit_faults tree)
in-process P tree word at here =
    in-right (diagnostic_at Limit word) (first_four tree) (flat_map process_faults (processes_in tree))
    (in-each (diagnostic_at Limit word) process_faults (processes_in tree) at.process
    (in-list (processes_in tree) at.before at.after at.process at.in_tree) here)

listed : (tree : Tree) (word : Spot) → PassesLimit tree word → In (diagnostic_at Limit word) (limit_faults tree)
listed tree word (processes p) =
    let names = map process_name (processes_in tree) in
    in-two tree (diagnostic_at Limit word)
    (in-left (diagnostic_at Limit word) (fault_at 200 names) (fault_at 1000 (map declared_name (declared_in tree)))
    (in-at 200 names word
    (mapped process_name (processes_in tree) 200 p.process
    (got 200 (processes_in tree) p.before p.after p.process p.in_tree p.broken.0)
    ∙ ap Some (sym p.broken.1))))
listed tree word (declared d) =
    let names = map declared_name (declared_in tree) in
    in-two tree (diagnostic_at Limit word)
    (in-right (diagnostic_at Limit word) (fault_at 200 (map process_name (processes_in tree))) (fault_at 1000 names)
    (in-at 1000 names word
    (mapped declared_name (declared_in tree) 1000 d.declared
    (got 1000 (declared_in tree) d.before d.after d.declared d.in_tree d.broken.0)
    ∙ ap Some (sym d.broken.1))))
listed tree word (statements at) =
    in-three tree (diagnostic_at Limit word)
    (in-right (diagnostic_at Limit word) (first_two tree) (fault_at 50000 (statements_in tree))
    (in-behind 50000 (statements_in tree) word at))
listed tree word (sorts d) =
    in-four tree (diagnostic_at Limit word)
    (in-right (diagnostic_at Limit word) (first_three tree) (flat_map declared_faults (declared_in tree))
    (in-each (diagnostic_at Limit word) declared_faults (declared_in tree) d.declared
    (in-list (declared_in tree) d.before d.after d.declared d.in_tree)
    (in-behind 16 d.declared.sorts word d.broken)))
listed tree word (parameters p) =
    let names = parameter_names p.process.parameters in
    in-process (λ before process name. StandsBehind 16 (parameter_names process.parameters) name) tree word p
    (in-left (diagnostic_at Limit word) (fault_at 16 names) (fault_at 1000 (different (state_names p.process)))
    (in-behind 16 names word p.broken))
listed tree word (states p) =
    let names = different (state_names p.process) in
    in-process (λ before process name. IsNewBehind 1000 (state_names process) name) tree word p
    (in-right (diagnostic_at Limit word) (fault_at 16 (parameter_names p.process.parameters)) (fault_at 1000 names)
    (in-at 1000 names word (new-got 1000 (state_names p.process) word p.broken)))

pub broken-listed : (tree : Tree) (fault : Diagnostic) → IsLimit tree fault → In fault (limit_faults tree)
broken-listed tree fault limit =
    subst (λ rule. In (diagnostic_at rule (diagnostic_word fault)) (limit_faults tree)) (sym limit.rule)
    (listed tree (diagnostic_word fault) limit.passed)
