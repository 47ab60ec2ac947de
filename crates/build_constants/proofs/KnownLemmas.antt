-- What is known of the synonyms, from the beginning on to the end.
use Rattle.std.proofs.Common.{◌≡◌, ◌≢◌, ◌∙◌, ◌&&◌, ◌==◌, ◌<◌, ◌+◌, ℕ, suc, zero, Bool, true, false, List, [], ◌∷◌, Some, length, map, option_map, refl, ap, sym, subst, arith, inl, inr, get_or, replicate, set, get_or-set_same, get_or-set_other}
use Rattle.std.proofs.lemmas.Bool.{eqb-true, eqb-false}
use Rattle.std.proofs.lemmas.List.{length-replicate, length-set}
use Rattle.std.proofs.lemmas.Option.{slice_get-map, slice_get_within}
use Rattle.std.specs.List.{slice_get}
use Rattle.std.specs.Option.{unwrap_or}
use Rattle.build_names.specs.FaultLaws.{In}
use Rattle.build_expressions.specs.declared.scope.Constant.{Constant}
use Rattle.build_expressions.specs.declared.scope.Constant.TheVariants.{NoValue}
use Rattle.build_constants.proofs.NamedLemmas.{same-constant}
use Rattle.build_constants.specs.Known.{AreStuck, IsKnown, are_settled, count_open, is_settled_at}
use Rattle.build_constants.specs.SettledSynonyms.{AreConstants, Settles, constant_of, constant_with, named_by}
use Rattle.build_constants.specs.SettledSynonyms as synonyms
use Rattle.build_constants.specs.declared.synonyms.synonym.Synonym.{Synonym}

-- ---- booleans

pub never : {A : Type 0} → true ≡ false → A
never is = absurd (let wrong : ⊥ = cc in wrong)

and-left : (a b : Bool) → (a && b) ≡ true → a ≡ true
and-left true b is = refl
and-left false b is = is

and-right : (a b : Bool) → (a && b) ≡ true → b ≡ true
and-right true b is = is
and-right false b is = never (sym is)

not-true : (a : Bool) → (a ≡ true → ⊥) → a ≡ false
not-true true is = absurd (is refl)
not-true false is = refl

-- ---- lists of numbers that are settled

each-settled : (settled : List Bool) (numbers : List ℕ) (number : ℕ) → are_settled settled numbers ≡ true →
    In number numbers → is_settled_at settled number ≡ true
each-settled settled [] number is at = absurd at
each-settled settled (first ∷ rest) number is at =
    elim at [
      | inl same ↦ ap (is_settled_at settled) same ∙ and-left (is_settled_at settled first) (are_settled settled rest) is
      | inr later ↦ each-settled settled rest number
          (and-right (is_settled_at settled first) (are_settled settled rest) is) later
    ]

and-both : (a b : Bool) → a ≡ true → b ≡ true → (a && b) ≡ true
and-both true b is also = also
and-both false b is also = is

all-settled : (settled : List Bool) (numbers : List ℕ) →
    ((number : ℕ) → In number numbers → is_settled_at settled number ≡ true) → are_settled settled numbers ≡ true
all-settled settled [] each = refl
all-settled settled (first ∷ rest) each =
    and-both (is_settled_at settled first) (are_settled settled rest) (each first (inl refl))
    (all-settled settled rest (λ number at. each number (inr at)))

-- ---- nothing is settled yet

same-everywhere : {A : Type 0} (value : A) (count number : ℕ) → get_or (replicate count value) number value ≡ value
same-everywhere value zero number = refl
same-everywhere value (suc count) zero = refl
same-everywhere value (suc count) (suc number) = same-everywhere value count number

pub nothing-known : (list : List Synonym) →
    IsKnown list (replicate (length list) NoValue) (replicate (length list) false)
nothing-known list = record {
  all = length-replicate (length list) NoValue;
  each = length-replicate (length list) false;
  open_ones = λ number is. same-everywhere NoValue (length list) number;
  rests = λ number synonym at is. never (sym is ∙ same-everywhere false (length list) number);
  comes_to = λ number synonym at is. never (sym is ∙ same-everywhere false (length list) number);
  sound = λ number is. never (sym is ∙ same-everywhere false (length list) number);
}

-- ---- one more is settled

pub fewer-open : (settled : List Bool) (number : ℕ) → number < length settled → is_settled_at settled number ≡ false →
    count_open (set settled number true) < count_open settled
fewer-open [] number within is = absurd (omega (arith, within))
fewer-open (true ∷ rest) zero within is = never is
fewer-open (false ∷ rest) zero within is = omega arith
fewer-open (true ∷ rest) (suc number) within is = fewer-open rest number (omega (arith, within)) is
fewer-open (false ∷ rest) (suc number) within is =
    let less : count_open (set rest number true) < count_open rest = fewer-open rest number (omega (arith, within)) is in
    omega (arith, less)

module _ (list : List Synonym) (table : List Constant) (settled : List Bool) (known : IsKnown list table settled)
    (number : ℕ) (synonym : Synonym) (at : slice_get list number ≡ Some synonym)
    (is_open : is_settled_at settled number ≡ false) (ready : are_settled settled (named_by synonym) ≡ true) where
  abbrev value : Constant
  value = constant_with table synonym

  within : number < length settled
  within = subst (λ n. number < n) (sym known.each) (slice_get_within list number synonym at)

  in-table : number < length table
  in-table = subst (λ n. number < n) (sym known.all) (slice_get_within list number synonym at)

  -- what was settled still is
  still : (other : ℕ) (same : Bool) → (other == number) ≡ same → is_settled_at settled other ≡ true →
      is_settled_at (set settled number true) other ≡ true
  still other true same is =
      ap (λ n. get_or (set settled number true) n false) (eqb-true other number same)
      ∙ get_or-set_same settled number true false within
  still other false same is = get_or-set_other settled number other true false (eqb-false other number same) ∙ is

  all-still : (numbers : List ℕ) → are_settled settled numbers ≡ true →
      are_settled (set settled number true) numbers ≡ true
  all-still numbers is = all-settled (set settled number true) numbers
      (λ other here. still other (other == number) refl (each-settled settled numbers other is here))

  -- and comes to what it did
  kept : (other : ℕ) → is_settled_at settled other ≡ true →
      constant_of table other ≡ constant_of (set table number value) other
  kept other is = sym (get_or-set_other table number other value NoValue
      (λ same. never (sym is ∙ ap (is_settled_at settled) same ∙ is_open)))

  kept-constant : (s : Synonym) → are_settled settled (named_by s) ≡ true →
      constant_with table s ≡ constant_with (set table number value) s
  kept-constant s is = same-constant table (set table number value) s
      (λ other here. kept other (each-settled settled (named_by s) other is here))

  this-one : (other : ℕ) (s : Synonym) → other ≡ number → slice_get list other ≡ Some s → synonym ≡ s
  this-one other s same here =
      ap (λ found. unwrap_or found s) (sym at ∙ ap (slice_get list) (sym same) ∙ here)

  new-open : (other : ℕ) (same : Bool) → (other == number) ≡ same →
      is_settled_at (set settled number true) other ≡ false → constant_of (set table number value) other ≡ NoValue
  new-open other true same is =
      never (sym (ap (is_settled_at (set settled number true)) (eqb-true other number same)
      ∙ get_or-set_same settled number true false within) ∙ is)
  new-open other false same is =
      let apart : other ≢ number = eqb-false other number same in
      get_or-set_other table number other value NoValue apart
      ∙ known.open_ones other (sym (get_or-set_other settled number other true false apart) ∙ is)

  new-rests : (other : ℕ) (s : Synonym) (same : Bool) → (other == number) ≡ same → slice_get list other ≡ Some s →
      is_settled_at (set settled number true) other ≡ true → are_settled settled (named_by s) ≡ true
  new-rests other s true same here is =
      ap (λ x. are_settled settled (named_by x)) (sym (this-one other s (eqb-true other number same) here)) ∙ ready
  new-rests other s false same here is =
      known.rests other s here (sym (get_or-set_other settled number other true false (eqb-false other number same)) ∙ is)

  new-comes_to : (other : ℕ) (s : Synonym) (same : Bool) → (other == number) ≡ same → slice_get list other ≡ Some s →
      is_settled_at (set settled number true) other ≡ true →
      constant_of (set table number value) other ≡ constant_with table s
  new-comes_to other s true same here is =
      ap (constant_of (set table number value)) (eqb-true other number same)
      ∙ get_or-set_same table number value NoValue in-table
      ∙ ap (constant_with table) (this-one other s (eqb-true other number same) here)
  new-comes_to other s false same here is =
      let apart : other ≢ number = eqb-false other number same in
      get_or-set_other table number other value NoValue apart
      ∙ known.comes_to other s here (sym (get_or-set_other settled number other true false apart) ∙ is)

  new-sound : (other : ℕ) (same : Bool) → (other == number) ≡ same →
      is_settled_at (set settled number true) other ≡ true → Settles list other
  new-sound other true same is =
      subst (Settles list) (sym (eqb-true other number same))
      (synonyms.settles number synonym at
      (λ named here. known.sound named (each-settled settled (named_by synonym) named ready here)))
  new-sound other false same is =
      known.sound other (sym (get_or-set_other settled number other true false (eqb-false other number same)) ∙ is)

  pub one-more : IsKnown list (set table number (constant_with table synonym)) (set settled number true)
  one-more = record {
    all = length-set table number value ∙ known.all;
    each = length-set settled number true ∙ known.each;
    open_ones = λ other is. new-open other (other == number) refl is;
    rests = λ other s here is. all-still (named_by s) (new-rests other s (other == number) refl here is);
    comes_to = λ other s here is.
        new-comes_to other s (other == number) refl here is
        ∙ kept-constant s (new-rests other s (other == number) refl here is);
    sound = λ other is. new-sound other (other == number) refl is;
  }

-- the numbers that are kept for a synonym are those that it names
pub named-here : {A : Type 0} (list : List Synonym) (named : List A) (f : A → List ℕ) (number : ℕ) (numbers : A)
    (synonym : Synonym) → map f named ≡ map named_by list → slice_get named number ≡ Some numbers →
    slice_get list number ≡ Some synonym → f numbers ≡ named_by synonym
named-here list named f number numbers synonym same kept at =
    ap (λ found. unwrap_or found (f numbers))
    (sym (ap (option_map f) kept) ∙ sym (slice_get-map f named number)
    ∙ ap (λ all. slice_get all number) same ∙ slice_get-map named_by list number ∙ ap (option_map named_by) at)

-- ---- where nothing more settles

stuck-at : (list : List Synonym) (settled : List Bool) (count : ℕ) → AreStuck list settled count →
    ((synonym : Synonym) → slice_get list count ≡ Some synonym → is_settled_at settled count ≡ false →
    are_settled settled (named_by synonym) ≡ false) →
    (number : ℕ) (synonym : Synonym) → slice_get list number ≡ Some synonym → is_settled_at settled number ≡ false →
    number < count + 1 → (same : Bool) → (number == count) ≡ same → are_settled settled (named_by synonym) ≡ false
stuck-at list settled count before here number synonym at is within true same =
    let e : number ≡ count = eqb-true number count same in
    here synonym (ap (slice_get list) (sym e) ∙ at) (ap (is_settled_at settled) (sym e) ∙ is)
stuck-at list settled count before here number synonym at is within false same =
    let apart : number ≢ count = eqb-false number count same in
    before number synonym at is (omega (arith, within, apart))

pub stuck-more : (list : List Synonym) (settled : List Bool) (count : ℕ) → AreStuck list settled count →
    ((synonym : Synonym) → slice_get list count ≡ Some synonym → is_settled_at settled count ≡ false →
    are_settled settled (named_by synonym) ≡ false) → AreStuck list settled (count + 1)
stuck-more list settled count before here number synonym at is within =
    stuck-at list settled count before here number synonym at is within (number == count) refl

module _ (list : List Synonym) (table : List Constant) (settled : List Bool) (known : IsKnown list table settled)
    (stuck : AreStuck list settled (length list)) where
  not-stuck : (number : ℕ) (synonym : Synonym) → slice_get list number ≡ Some synonym →
      are_settled settled (named_by synonym) ≡ true → (is : Bool) → is_settled_at settled number ≡ is →
      is_settled_at settled number ≡ true
  not-stuck number synonym at ready true is = is
  not-stuck number synonym at ready false is =
      never (sym ready ∙ stuck number synonym at is (slice_get_within list number synonym at))

  reached : (number : ℕ) → Settles list number → is_settled_at settled number ≡ true
  reached number (synonyms.settles n synonym at each) =
      not-stuck n synonym at
      (all-settled settled (named_by synonym) (λ other here. reached other (each other here)))
      (is_settled_at settled n) refl

  pub all-known : AreConstants list table
  all-known = record {
    all = known.all;
    settled = λ number synonym at is. known.comes_to number synonym at (reached number is);
    unsettled = λ number not. known.open_ones number
        (not-true (is_settled_at settled number) (λ is. not (known.sound number is)));
  }

-- ---- tables agree

pub settled-once : (list : List Synonym) (one other : List Constant) → AreConstants list one → AreConstants list other →
    (number : ℕ) → Settles list number → constant_of one number ≡ constant_of other number
settled-once list one other first second number (synonyms.settles n synonym at each) =
    first.settled n synonym at (synonyms.settles n synonym at each)
    ∙ same-constant one other synonym (λ m here. settled-once list one other first second m (each m here))
    ∙ sym (second.settled n synonym at (synonyms.settles n synonym at each))
