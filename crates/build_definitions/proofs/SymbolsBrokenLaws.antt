-- The list of duplicates has just the names that a scope declares twice.
use Rattle.std.proofs.Common.{◌≡◌, ◌∙◌, ◌++◌, ◌==◌, ◌&&◌, ◌||◌, ℕ, Bool, true, false, List, [], ◌∷◌, refl, ap, sym, subst, inl, inr, arith}
use Rattle.std.specs.List.{list_any}
use Rattle.std.specs.Str.{bytes_eq}
use Rattle.std.proofs.lemmas.Bool.Decides.{nat_tests}
use Rattle.std.proofs.lemmas.List.{append-nil, append_assoc}
use Rattle.std.proofs.lemmas.Slice.Eq.{bytes_eq-Decides}
use Rattle.build_definitions.specs.Definitions.{Rows}
use Rattle.build_definitions.specs.SymbolsBroken.{IsDeclaredTwice, IsDuplicate}
use Rattle.build_definitions.specs.SymbolsBroken as way
use Rattle.build_definitions.specs.Entries.{Standing, duplicates, duplicates_behind, is_same_name, standings}
use Rattle.build_definitions.specs.Meanings.{agent_entries, channel_entries, duplicate_faults, label_entries, list_entries, signal_entries, value_entries}
use Rattle.build_names.proofs.FaultLemmas.{each-both, each-if, in-if, in-left, in-right}
use Rattle.build_names.specs.FaultLaws.{Each, In}
use Rattle.build_names.specs.Faults.{Diagnostic, fault_if, diagnostic_at}
use Rattle.build_names.specs.declared.faults.fault.Rule.TheVariants.{Duplicate}
use Rattle.build_expressions.proofs.ListedLaws.{each-weaker}
use Rattle.build_names.specs.Spaces.{is_same_scope}
use Rattle.build_names.specs.declared.scopes.scope.ScopeId.{ScopeId}
use Rattle.build_names.specs.declared.scopes.scope.ScopeId.TheVariants.{System, Block, Process}

-- ---- names that are the same

same_number : (a b : ℕ) → (a == b) ≡ true → a ≡ b
same_number a b is = grind (arith, nat_tests)

number_same : (a : ℕ) → (a == a) ≡ true
number_same a = grind (arith, nat_tests)

same-scope : (one other : ScopeId) → is_same_scope one other ≡ true → one ≡ other
same-scope System System is = refl
same-scope System (Block b) is = cc
same-scope System (Process b) is = cc
same-scope (Block a) System is = cc
same-scope (Block a) (Block b) is = ap (λ n. Block (record { 0 = n })) (same_number a.0 b.0 is)
same-scope (Block a) (Process b) is = cc
same-scope (Process a) System is = cc
same-scope (Process a) (Block b) is = cc
same-scope (Process a) (Process b) is = ap (λ n. Process (record { 0 = n })) (same_number a.0 b.0 is)

scope-same : (one : ScopeId) → is_same_scope one one ≡ true
scope-same System = refl
scope-same (Block a) = number_same a.0
scope-same (Process a) = number_same a.0

left-true : (a b : Bool) → (a && b) ≡ true → a ≡ true
left-true true b is = refl
left-true false b is = is

right-true : (a b : Bool) → (a && b) ≡ true → b ≡ true
right-true true b is = is
right-true false b is = cc

both-true : (a b : Bool) → a ≡ true → b ≡ true → (a && b) ≡ true
both-true true b left right = right
both-true false b left right = left

-- ---- one of a list

record Found {A : Type 0} (test : A → Bool) (xs : List A) : Type 0 where
  one : A
  listed : In one xs
  is : test one ≡ true

first-found : {A : Type 0} (test : A → Bool) (x : A) (xs : List A) (here : Bool) → test x ≡ here →
    (list_any test xs ≡ true → Found test xs) → (here || list_any test xs) ≡ true → Found test (x ∷ xs)
first-found test x xs true at rest any = record { one = x; listed = inl refl; is = at }
first-found test x xs false at rest any =
    let found = rest any in record { one = found.one; listed = inr found.listed; is = found.is }

any-found : {A : Type 0} (test : A → Bool) (xs : List A) → list_any test xs ≡ true → Found test xs
any-found test [] any = cc
any-found test (x ∷ xs) any = first-found test x xs (test x) refl (any-found test xs) any

or-left : (a b : Bool) → a ≡ true → (a || b) ≡ true
or-left true b is = refl
or-left false b is = cc

or-right : (a b : Bool) → b ≡ true → (a || b) ≡ true
or-right true b is = refl
or-right false b is = is

found-any : {A : Type 0} (test : A → Bool) (xs : List A) (one : A) → In one xs → test one ≡ true →
    list_any test xs ≡ true
found-any test [] one at is = absurd at
found-any test (x ∷ xs) one at is =
    elim at [
      | inl same ↦ or-left (test x) (list_any test xs) (subst (λ y. test y ≡ true) same is)
      | inr later ↦ or-right (test x) (list_any test xs) (found-any test xs one later is)
    ]

-- ---- one name space

duplicate : (all before : List Standing) (name : Standing) (after : List Standing) → all ≡ before ++ name ∷ after →
    list_any (is_same_name name) before ≡ true → IsDuplicate all (diagnostic_at Duplicate name.name)
duplicate all before name after in_names any =
    let found = any-found (is_same_name name) before any in
    let same_scope = is_same_scope found.one.scope name.scope in
    let same_text = bytes_eq name.name.text found.one.name.text in
    record {
      before = before;
      name = name;
      after = after;
      in_names = in_names;
      first = found.one;
      stands_before = found.listed;
      same_scope = same-scope found.one.scope name.scope (left-true same_scope same_text found.is);
      same_text =
          sym ((bytes_eq-Decides name.name.text found.one.name.text).0 (right-true same_scope same_text found.is));
      told = refl;
    }

each-duplicate : (all before names : List Standing) → all ≡ before ++ names →
    Each (IsDuplicate all) (duplicates_behind before names)
each-duplicate all before [] is = tt
each-duplicate all before (name ∷ names) is =
    each-both (IsDuplicate all) (fault_if (list_any (is_same_name name) before) Duplicate name.name)
    (duplicates_behind (before ++ name ∷ []) names)
    (each-if (IsDuplicate all) (list_any (is_same_name name) before) Duplicate name.name
    (λ any. duplicate all before name names is any))
    (each-duplicate all (before ++ name ∷ []) names (is ∙ sym (append_assoc before (name ∷ []) names)))

in-behind : (base before : List Standing) (name : Standing) (after : List Standing) →
    list_any (is_same_name name) (base ++ before) ≡ true →
    In (diagnostic_at Duplicate name.name) (duplicates_behind base (before ++ name ∷ after))
in-behind base [] name after any =
    in-left (diagnostic_at Duplicate name.name) (fault_if (list_any (is_same_name name) base) Duplicate name.name)
    (duplicates_behind (base ++ name ∷ []) after)
    (in-if (list_any (is_same_name name) base) Duplicate name.name
    (ap (list_any (is_same_name name)) (sym (append-nil base)) ∙ any))
in-behind base (x ∷ before) name after any =
    in-right (diagnostic_at Duplicate name.name) (fault_if (list_any (is_same_name x) base) Duplicate x.name)
    (duplicates_behind (base ++ x ∷ []) (before ++ name ∷ after))
    (in-behind (base ++ x ∷ []) before name after
    (ap (list_any (is_same_name name)) (append_assoc base (x ∷ []) before) ∙ any))

duplicate-listed : (names : List Standing) (fault : Diagnostic) → IsDuplicate names fault → In fault (duplicates names)
duplicate-listed names fault is =
    let same : is_same_name is.name is.first ≡ true =
    both-true (is_same_scope is.first.scope is.name.scope) (bytes_eq is.name.name.text is.first.name.text)
    (ap (λ scope. is_same_scope scope is.name.scope) is.same_scope ∙ scope-same is.name.scope)
    ((bytes_eq-Decides is.name.name.text is.first.name.text).1 (sym is.same_text)) in
    let at : In (diagnostic_at Duplicate is.name.name) (duplicates (is.before ++ is.name ∷ is.after)) =
    in-behind [] is.before is.name is.after
    (found-any (is_same_name is.name) is.before is.first is.stands_before same) in
    subst (λ f. In f (duplicates names)) (sym is.told)
    (subst (λ list. In (diagnostic_at Duplicate is.name.name) (duplicates list)) (sym is.in_names) at)

-- ---- all name spaces

in-space : (rows : Rows) (names : List Standing) →
    ((fault : Diagnostic) → IsDuplicate names fault → IsDeclaredTwice rows fault) →
    Each (IsDeclaredTwice rows) (duplicates names)
in-space rows names to =
    each-weaker (IsDuplicate names) (IsDeclaredTwice rows) (duplicates names) to (each-duplicate names [] names refl)

pub listed-broken : (rows : Rows) → Each (IsDeclaredTwice rows) (duplicate_faults rows)
listed-broken rows =
    each-both (IsDeclaredTwice rows) (duplicates (standings (signal_entries rows))
    ++ duplicates (standings (list_entries rows)) ++ duplicates (standings (channel_entries rows))
    ++ duplicates (standings (agent_entries rows)) ++ duplicates (standings (value_entries rows)))
    (duplicates (standings (label_entries rows)))
    (each-both (IsDeclaredTwice rows) (duplicates (standings (signal_entries rows))
    ++ duplicates (standings (list_entries rows)) ++ duplicates (standings (channel_entries rows))
    ++ duplicates (standings (agent_entries rows)))
    (duplicates (standings (value_entries rows)))
    (each-both (IsDeclaredTwice rows) (duplicates (standings (signal_entries rows))
    ++ duplicates (standings (list_entries rows)) ++ duplicates (standings (channel_entries rows)))
    (duplicates (standings (agent_entries rows)))
    (each-both (IsDeclaredTwice rows) (duplicates (standings (signal_entries rows))
    ++ duplicates (standings (list_entries rows)))
    (duplicates (standings (channel_entries rows)))
    (each-both (IsDeclaredTwice rows) (duplicates (standings (signal_entries rows)))
    (duplicates (standings (list_entries rows)))
    (in-space rows (standings (signal_entries rows)) (λ fault is. way.signal_or_timer is))
    (in-space rows (standings (list_entries rows)) (λ fault is. way.signal_list is)))
    (in-space rows (standings (channel_entries rows)) (λ fault is. way.channel is)))
    (in-space rows (standings (agent_entries rows)) (λ fault is. way.block_or_process is)))
    (in-space rows (standings (value_entries rows)) (λ fault is. way.variable_or_synonym is)))
    (in-space rows (standings (label_entries rows)) (λ fault is. way.label is))

pub broken-listed : (rows : Rows) (fault : Diagnostic) → IsDeclaredTwice rows fault → In fault (duplicate_faults rows)
broken-listed rows fault (way.signal_or_timer is) =
    in-left fault (duplicates (standings (signal_entries rows)) ++ duplicates (standings (list_entries rows))
    ++ duplicates (standings (channel_entries rows)) ++ duplicates (standings (agent_entries rows))
    ++ duplicates (standings (value_entries rows)))
    (duplicates (standings (label_entries rows)))
    (in-left fault (duplicates (standings (signal_entries rows)) ++ duplicates (standings (list_entries rows))
    ++ duplicates (standings (channel_entries rows)) ++ duplicates (standings (agent_entries rows)))
    (duplicates (standings (value_entries rows)))
    (in-left fault (duplicates (standings (signal_entries rows)) ++ duplicates (standings (list_entries rows))
    ++ duplicates (standings (channel_entries rows)))
    (duplicates (standings (agent_entries rows)))
    (in-left fault (duplicates (standings (signal_entries rows)) ++ duplicates (standings (list_entries rows)))
    (duplicates (standings (channel_entries rows)))
    (in-left fault (duplicates (standings (signal_entries rows)))
    (duplicates (standings (list_entries rows)))
    (duplicate-listed (standings (signal_entries rows)) fault is)))))
broken-listed rows fault (way.signal_list is) =
    in-left fault (duplicates (standings (signal_entries rows)) ++ duplicates (standings (list_entries rows))
    ++ duplicates (standings (channel_entries rows)) ++ duplicates (standings (agent_entries rows))
    ++ duplicates (standings (value_entries rows)))
    (duplicates (standings (label_entries rows)))
    (in-left fault (duplicates (standings (signal_entries rows)) ++ duplicates (standings (list_entries rows))
    ++ duplicates (standings (channel_entries rows)) ++ duplicates (standings (agent_entries rows)))
    (duplicates (standings (value_entries rows)))
    (in-left fault (duplicates (standings (signal_entries rows)) ++ duplicates (standings (list_entries rows))
    ++ duplicates (standings (channel_entries rows)))
    (duplicates (standings (agent_entries rows)))
    (in-left fault (duplicates (standings (signal_entries rows)) ++ duplicates (standings (list_entries rows)))
    (duplicates (standings (channel_entries rows)))
    (in-right fault (duplicates (standings (signal_entries rows)))
    (duplicates (standings (list_entries rows))) (duplicate-listed (standings (list_entries rows)) fault is)))))
broken-listed rows fault (way.channel is) =
    in-left fault (duplicates (standings (signal_entries rows)) ++ duplicates (standings (list_entries rows))
    ++ duplicates (standings (channel_entries rows)) ++ duplicates (standings (agent_entries rows))
    ++ duplicates (standings (value_entries rows)))
    (duplicates (standings (label_entries rows)))
    (in-left fault (duplicates (standings (signal_entries rows)) ++ duplicates (standings (list_entries rows))
    ++ duplicates (standings (channel_entries rows)) ++ duplicates (standings (agent_entries rows)))
    (duplicates (standings (value_entries rows)))
    (in-left fault (duplicates (standings (signal_entries rows)) ++ duplicates (standings (list_entries rows))
    ++ duplicates (standings (channel_entries rows)))
    (duplicates (standings (agent_entries rows)))
    (in-right fault (duplicates (standings (signal_entries rows)) ++ duplicates (standings (list_entries rows)))
    (duplicates (standings (channel_entries rows))) (duplicate-listed (standings (channel_entries rows)) fault is))))
broken-listed rows fault (way.block_or_process is) =
    in-left fault (duplicates (standings (signal_entries rows)) ++ duplicates (standings (list_entries rows))
    ++ duplicates (standings (channel_entries rows)) ++ duplicates (standings (agent_entries rows))
    ++ duplicates (standings (value_entries rows)))
    (duplicates (standings (label_entries rows)))
    (in-left fault (duplicates (standings (signal_entries rows)) ++ duplicates (standings (list_entries rows))
    ++ duplicates (standings (channel_entries rows)) ++ duplicates (standings (agent_entries rows)))
    (duplicates (standings (value_entries rows)))
    (in-right fault (duplicates (standings (signal_entries rows)) ++ duplicates (standings (list_entries rows))
    ++ duplicates (standings (channel_entries rows)))
    (duplicates (standings (agent_entries rows))) (duplicate-listed (standings (agent_entries rows)) fault is)))
broken-listed rows fault (way.variable_or_synonym is) =
    in-left fault (duplicates (standings (signal_entries rows)) ++ duplicates (standings (list_entries rows))
    ++ duplicates (standings (channel_entries rows)) ++ duplicates (standings (agent_entries rows))
    ++ duplicates (standings (value_entries rows)))
    (duplicates (standings (label_entries rows)))
    (in-right fault (duplicates (standings (signal_entries rows)) ++ duplicates (standings (list_entries rows))
    ++ duplicates (standings (channel_entries rows)) ++ duplicates (standings (agent_entries rows)))
    (duplicates (standings (value_entries rows))) (duplicate-listed (standings (value_entries rows)) fault is))
broken-listed rows fault (way.label is) =
    in-right fault (duplicates (standings (signal_entries rows)) ++ duplicates (standings (list_entries rows))
    ++ duplicates (standings (channel_entries rows)) ++ duplicates (standings (agent_entries rows))
    ++ duplicates (standings (value_entries rows)))
    (duplicates (standings (label_entries rows))) (duplicate-listed (standings (label_entries rows)) fault is)
