-- Where no rule is broken in the definitions of synonyms, each of them has a value.
use Rattle.std.proofs.Common.{◌≡◌, ◌∙◌, ℕ, zero, suc, ◌<◌, List, [], ◌∷◌, Option, None, Some, length, option_map, slice_get, refl, sym, subst, inl, inr, arith}
use Rattle.std.proofs.lemmas.Option.{unwrap_or-slice_get}
use Rattle.laws_complete.proofs.ValueLemmas.{HaveSynonymSorts, IsAccepted, accepted-typed, constant-valued, fits-place}
use Rattle.laws_complete.specs.Complete.{HasValue}
use Rattle.build_names.specs.FaultLaws.{Each, In}
use Rattle.build_names.specs.Faults.{diagnostic_at}
use Rattle.build_names.specs.Names.{first_of}
use Rattle.build_names.specs.declared.faults.fault.Rule.TheVariants.{BadCount}
use Rattle.build_expressions.proofs.ScopeLemmas.{meaning-first}
use Rattle.build_expressions.specs.Broken.{Within}
use Rattle.build_expressions.specs.Scope.{constant_at, value_in, value_meaning, visible}
use Rattle.build_expressions.specs.Words.{first_word}
use Rattle.build_expressions.specs.declared.scope.Constant.{Constant}
use Rattle.build_expressions.specs.declared.scope.Constant.TheVariants as value
use Rattle.build_expressions.specs.declared.scope.ValueEntry.{ValueEntry}
use Rattle.build_expressions.specs.declared.scope.ValueEntry.TheVariants as entry
use Rattle.build_expressions.specs.declared.scope.ValueMeaning.TheVariants as meant
use Rattle.build_constants.proofs.SynonymsBrokenLaws.{listed-named}
use Rattle.build_constants.proofs.NamedLemmas.{listed}
use Rattle.build_constants.proofs.UnvaluedLaws.{unvalued-noted}
use Rattle.build_constants.specs.Named.{synonym_in}
use Rattle.build_constants.specs.SettledSynonyms.{AreConstants, Settles, constant_of, named_by, scope_with, synonym_faults}
use Rattle.build_constants.specs.SettledSynonyms as synonym
use Rattle.build_constants.specs.declared.synonyms.synonym.Synonym.{Synonym}
use Rattle.sdl_system.specs.declared.sort.Sort as sorts
use Rattle.sdl_tree.specs.Tree.{Expr, Named}
use Rattle.sdl_tree.specs.Views.{expr_value}
use Rattle.sdl_tree.specs.Words.{Spot}

-- ---- names of synonyms that aren't refused

meaning-accepted : (table : List Constant) (found : Option ValueEntry) (sort : Option sorts.Sort) →
    ((number : ℕ) → In number (synonym_in found) → constant_of table number ≡ value.Refused → ⊥) →
    option_map (value_meaning table) found ≡ Some (meant.Synonym sort value.Refused) → ⊥
meaning-accepted table None sort none is = cc
meaning-accepted table (Some (entry.Variable number own)) sort none is = cc
meaning-accepted table (Some (entry.Synonym number own)) sort none is =
    let refused : constant_at table number ≡ value.Refused = cc in
    none number.0 (inl refl) (sym (unwrap_or-slice_get table number.0 value.NoValue) ∙ refused)

abbrev expression_of : Synonym → Expr
expression_of one = expr_value one.expression.now

names-accepted : (table : List Constant) (one : Synonym) →
    ((number : ℕ) → In number (named_by one) → constant_of table number ≡ value.Refused → ⊥) →
    (name : Spot) → Within (Named name) (expression_of one) → IsAccepted (value_in (scope_with table one) name.text)
names-accepted table one none name at sort is =
    let values = visible one.values in
    meaning-accepted table (first_of values name.text) sort (λ number here. none number (listed values number at here))
    (sym (meaning-first (value_meaning table) values name.text) ∙ is)

-- ---- all that is in a finite list, but for a double negation

all-but : (P : ℕ → Type 0) (numbers : List ℕ) → ((number : ℕ) → In number numbers → (P number → ⊥) → ⊥) →
    (((number : ℕ) → In number numbers → P number) → ⊥) → ⊥
all-but P [] each none = none (λ number at. absurd at)
all-but P (first ∷ numbers) each none =
    each first (inl refl) (λ here. all-but P numbers (λ number at. each number (inr at))
    (λ rest. none (λ number at. elim at [ inl same ↦ subst P (sym same) here | inr later ↦ rest number later ])))

slice-in : {A : Type 0} (xs : List A) (n : ℕ) (x : A) → slice_get xs n ≡ Some x → In x xs
slice-in [] zero x at = cc
slice-in [] (suc n) x at = cc
slice-in (y ∷ xs) zero x at = let same : x ≡ y = cc in inl same
slice-in (y ∷ xs) (suc n) x at = inr (slice-in xs n x at)

slice-some : {A : Type 0} (xs : List A) (n : ℕ) → n < length xs → (x : A) × (slice_get xs n ≡ Some x)
slice-some [] n below = absurd (omega arith)
slice-some (x ∷ xs) zero below = (x, refl)
slice-some (x ∷ xs) (suc n) below = slice-some xs n (omega arith)

each-valued : (table : List Constant) → ((n : ℕ) → n < length table → HasValue (constant_of table n)) →
    Each HasValue table
each-valued [] valued = tt
each-valued (c ∷ table) valued = (valued 0 (omega arith), each-valued table (λ n below. valued (suc n) (omega arith)))

has-value : (constant : Constant) → (constant ≡ value.NoValue → ⊥) → (constant ≡ value.Refused → ⊥) → HasValue constant
has-value (value.Value v) none refused = tt
has-value value.NoValue none refused = none refl
has-value value.Refused none refused = refused refl

refused-none : value.Refused ≡ value.NoValue → ⊥
refused-none same = cc

-- ---- synonyms in whose definitions no rule is broken

module _ (list : List Synonym) (table : List Constant) (are : AreConstants list table)
    (sorted : (one : Synonym) → In one list → HaveSynonymSorts (scope_with table one))
    (faultless : (one : Synonym) → In one list → synonym_faults table one ≡ []) where
  -- one that settles has a value: those that it names do
  settled-value : (number : ℕ) → Settles list number → HasValue (constant_of table number)
  settled-value number (synonym.settles number' one at named) =
      let listed = slice-in list number' one at in
      subst HasValue (sym (are.settled number' one at (synonym.settles number' one at named)))
      (constant-valued (scope_with table one) (sorted one listed) one.sort (expression_of one)
      (names-accepted table one (λ other here refused. subst HasValue refused (settled-value other (named other here))))
      (faultless one listed))

  -- none is refused: it would settle, since one that doesn't has no value
  unrefused : (number : ℕ) → constant_of table number ≡ value.Refused → ⊥
  unrefused number refused =
      let none : constant_of table number ≡ value.NoValue =
      are.unsettled number (λ settled. subst HasValue refused (settled-value number settled)) in
      refused-none (sym refused ∙ none)

  -- so each that one names settles, or BadCount would be told of it
  named-settles : (one : Synonym) → In one list → (number : ℕ) → In number (named_by one) →
      (Settles list number → ⊥) → ⊥
  named-settles one listed number at unsettled =
      let scope = scope_with table one in
      let whole = expression_of one in
      let fitting = fits-place scope (sorted one listed) one.sort whole (faultless one listed) in
      subst (In (diagnostic_at BadCount (first_word whole))) (faultless one listed)
      (unvalued-noted list table are one number (listed-named (visible one.values) whole number at) unsettled
      fitting.typed
      fitting.typed_is fitting.taken
      (accepted-typed scope one.sort whole fitting (names-accepted table one (λ other here. unrefused other))))

  -- and so does it
  settles-too : (number : ℕ) (one : Synonym) → slice_get list number ≡ Some one → (Settles list number → ⊥) → ⊥
  settles-too number one at unsettled =
      all-but (Settles list) (named_by one) (named-settles one (slice-in list number one at))
      (λ named. unsettled (synonym.settles number one at named))

  valued-at : (number : ℕ) → number < length table → HasValue (constant_of table number)
  valued-at number below =
      let all = are.all in
      let one = slice-some list number (omega (arith, all)) in
      has-value (constant_of table number)
      (λ none. settles-too number one.0 one.1 (λ settled. subst HasValue none (settled-value number settled)))
      (unrefused number)

  pub synonyms-valued : Each HasValue table
  synonyms-valued = each-valued table valued-at
