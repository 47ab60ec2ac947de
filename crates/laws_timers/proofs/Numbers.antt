-- What is so of each instance by its number, where one is changed or one more is made.
use Rattle.std.proofs.Common.{◌≡◌, ◌∙◌, ◌⊎◌, ◌++◌, inl, inr, ap, arith, refl, subst, sym, ℕ, zero, suc, nat_eq, true, false, List, [], ◌∷◌, Option, None, Some, slice_get, set}
use Rattle.std.proofs.lemmas.Option.{none-some, same_Some}
use Rattle.serial_order.specs.RunState.{change_at, changed_at, instance_at, with_instance}
use Rattle.sdl_interp.specs.Instance.{InstanceValue}

pub eq_of : (m n : ℕ) → nat_eq m n ≡ true → m ≡ n
eq_of m n same = grind (arith, same)

pub eq_is : (m n : ℕ) → m ≡ n → nat_eq m n ≡ true
eq_is m n same = grind (arith, same)

pub not_of : (m n : ℕ) → nat_eq m n ≡ false → m ≡ n → ⊥
not_of m n other same = let wrong : true ≡ false = sym (eq_is m n same) ∙ other in absurd cc

-- this is so of each instance and its number
abbrev pub EachAt : (ℕ → InstanceValue → Type 0) → List InstanceValue → Type 0
EachAt P instances = (n : ℕ) (i : InstanceValue) → instance_at instances n ≡ Some i → P n i

-- ---- one is changed

-- the instance at a place, where one is written
at_set : (instances : List InstanceValue) (m n : ℕ) (new i : InstanceValue)
    → slice_get (set instances m new) n ≡ Some i
    → ((nat_eq m n ≡ true) × (i ≡ new)) ⊎ ((nat_eq m n ≡ false) × (slice_get instances n ≡ Some i))
at_set [] m n new i e = absurd (none-some i e)
at_set (first ∷ rest) zero zero new i e = inl (refl, sym (same_Some new i e))
at_set (first ∷ rest) zero (suc n) new i e = inr (grind arith, e)
at_set (first ∷ rest) (suc m) zero new i e = inr (grind arith, e)
at_set (first ∷ rest) (suc m) (suc n) new i e =
    let same : nat_eq (suc m) (suc n) ≡ nat_eq m n = grind arith in
    elim (at_set rest m n new i e) [
      | inl w ↦ inl (same ∙ w.0, w.1)
      | inr w ↦ inr (same ∙ w.0, w.1)
    ]

at_with : (instances : List InstanceValue) (m n : ℕ) (new i : InstanceValue)
    → instance_at (with_instance instances m new) n ≡ Some i
    → ((nat_eq m n ≡ true) × (i ≡ new)) ⊎ ((nat_eq m n ≡ false) × (instance_at instances n ≡ Some i))
at_with instances zero zero new i e = absurd (none-some i e)
at_with instances zero (suc n) new i e = inr (grind arith, e)
at_with instances (suc m) zero new i e = absurd (none-some i e)
at_with instances (suc m) (suc n) new i e =
    let same : nat_eq (suc m) (suc n) ≡ nat_eq m n = grind arith in
    elim (at_set instances m n new i e) [
      | inl w ↦ inl (same ∙ w.0, w.1)
      | inr w ↦ inr (same ∙ w.0, w.1)
    ]

module _ (P Q : ℕ → InstanceValue → Type 0) (instances : List InstanceValue) (m : ℕ) (each : EachAt P instances)
    (others : (n : ℕ) (i : InstanceValue) → (m ≡ n → ⊥) → P n i → Q n i) where
  -- the one of a number is another now
  pub each_with : (new : InstanceValue) → Q m new → EachAt Q (with_instance instances m new)
  each_with new here n i e =
      elim (at_with instances m n new i e) [
        | inl w ↦
            subst (λ (j : InstanceValue). Q n j) (sym w.1) (subst (λ k. Q k new) (eq_of m n w.0) here)
        | inr w ↦ others n i (not_of m n w.0) (each n i w.1)
      ]

  module _ (change : InstanceValue → InstanceValue) (here : (i : InstanceValue) → P m i → Q m (change i)) where
    by_one : (o : Option InstanceValue) → instance_at instances m ≡ o → EachAt Q (changed_at change instances m o)
    by_one None is n i e =
        others n i
        (λ same. none-some i (sym is ∙ ap (λ k. instance_at instances k) same ∙ e)) (each n i e)
    by_one (Some old) is n i e = each_with (change old) (here old (each m old is)) n i e

    pub each_change : EachAt Q (change_at change instances m)
    each_change = by_one (instance_at instances m) refl

-- ---- one more is made

-- an element of two lists, one after the other
at_append : {X : Type 0} (xs ys : List X) (k : ℕ) (x : X) → slice_get (xs ++ ys) k ≡ Some x
    → (slice_get xs k ≡ Some x) ⊎ ((m : ℕ) × (slice_get ys m ≡ Some x))
at_append [] ys k x e = inr (k, e)
at_append (first ∷ rest) ys zero x e = inl e
at_append (first ∷ rest) ys (suc k) x e = at_append rest ys k x e

-- each element of a list
abbrev pub Everywhere : (InstanceValue → Type 0) → List InstanceValue → Type 0
Everywhere P instances = (k : ℕ) (i : InstanceValue) → slice_get instances k ≡ Some i → P i

pub everywhere_none : (P : InstanceValue → Type 0) → Everywhere P []
everywhere_none P k i none = absurd (none-some i none)

pub everywhere_append : (P : InstanceValue → Type 0) (first later : List InstanceValue) → Everywhere P first
    → Everywhere P later → Everywhere P (first ++ later)
everywhere_append P first later are more k i e =
    elim (at_append first later k i e) [
      | inl w ↦ are k i w
      | inr w ↦ more w.0 i w.1
    ]

pub everywhere_cons : (P : InstanceValue → Type 0) (first : InstanceValue) (rest : List InstanceValue) → P first
    → Everywhere P rest → Everywhere P (first ∷ rest)
everywhere_cons P first rest is are zero i e = subst P (same_Some first i e) is
everywhere_cons P first rest is are (suc k) i e = are k i e

pub each_of : (P : ℕ → InstanceValue → Type 0) (instances : List InstanceValue)
    → ((n : ℕ) → Everywhere (P n) instances) → EachAt P instances
each_of P instances are zero i e = absurd (none-some i e)
each_of P instances are (suc k) i e = are (suc k) k i e

pub each_more : (P : ℕ → InstanceValue → Type 0) (instances : List InstanceValue) (new : InstanceValue)
    → EachAt P instances → ((n : ℕ) → P n new) → EachAt P (instances ++ new ∷ [])
each_more P instances new each is zero i e = absurd (none-some i e)
each_more P instances new each is (suc k) i e =
    elim (at_append instances (new ∷ []) k i e) [
      | inl w ↦ each (suc k) i w
      | inr w ↦ everywhere_cons (P (suc k)) new [] (is (suc k)) (everywhere_none (P (suc k))) w.0 i w.1
    ]
