-- Instances by their numbers, where one is changed or one more is made.
use Rattle.std.proofs.Common.{◌≡◌, ◌∙◌, ◌⊎◌, inl, inr, ap, arith, refl, sym, ℕ, zero, suc, ◌+◌, ◌<◌, ◌&&◌, nat_eq, nat_le, nat_lt, Bool, true, false, List, [], ◌∷◌, ◌++◌, Option, None, Some, length, slice_get, set}
use Rattle.std.proofs.lemmas.List.{length-set}
use Rattle.std.proofs.lemmas.Option.{none-some, same_Some, slice_get_within}
use Rattle.serial_order.specs.RunState.{change_at, changed_at, instance_at, with_instance}
use Rattle.serial_order.specs.Told.{Moment, is_there}
use Rattle.sdl_interp.specs.Instance.{InstanceValue}

pub eq_of : (m n : ℕ) → nat_eq m n ≡ true → m ≡ n
eq_of m n same = grind (arith, same)

pub eq_is : (m n : ℕ) → m ≡ n → nat_eq m n ≡ true
eq_is m n same = grind (arith, same)

pub other_is : (m n : ℕ) → m < n → nat_eq m n ≡ false
other_is m n less = grind (arith, less)

-- ---- one is changed

-- the instance at a place, where one is written
at_set : (instances : List InstanceValue) (m n : ℕ) (new i : InstanceValue)
    → slice_get (set instances m new) n ≡ Some i
    → ((nat_eq m n ≡ true) × (i ≡ new)) ⊎ ((nat_eq m n ≡ false) × (slice_get instances n ≡ Some i))
at_set [] m n new i e = absurd (none-some i e)
at_set (first ∷ rest) zero zero new i e = inl (refl, sym (same_Some new i e))
at_set (first ∷ rest) zero (suc n) new i e = inr (grind arith, e)
at_set (first ∷ rest) (suc m) zero new i e = inr (grind arith, e)
at_set (first ∷ rest) (suc m) (suc n) new i e =
    let same : nat_eq (suc m) (suc n) ≡ nat_eq m n = grind arith in
    elim (at_set rest m n new i e) [
      | inl w ↦ inl (same ∙ w.0, w.1)
      | inr w ↦ inr (same ∙ w.0, w.1)
    ]

pub at_with : (instances : List InstanceValue) (m n : ℕ) (new i : InstanceValue)
    → instance_at (with_instance instances m new) n ≡ Some i
    → ((nat_eq m n ≡ true) × (i ≡ new)) ⊎ ((nat_eq m n ≡ false) × (instance_at instances n ≡ Some i))
at_with instances zero zero new i e = absurd (none-some i e)
at_with instances zero (suc n) new i e = inr (grind arith, e)
at_with instances (suc m) zero new i e = absurd (none-some i e)
at_with instances (suc m) (suc n) new i e =
    let same : nat_eq (suc m) (suc n) ≡ nat_eq m n = grind arith in
    elim (at_set instances m n new i e) [
      | inl w ↦ inl (same ∙ w.0, w.1)
      | inr w ↦ inr (same ∙ w.0, w.1)
    ]

pub length-with : (instances : List InstanceValue) (m : ℕ) (new : InstanceValue)
    → length (with_instance instances m new) ≡ length instances
length-with instances zero new = refl
length-with instances (suc m) new = length-set instances m new

-- what an instance was, before that of a number was changed
pub record Was (change : InstanceValue → InstanceValue) (instances : List InstanceValue) (n : ℕ)
    (i : InstanceValue) : Type 0 where
  pub old : InstanceValue
  pub is_there : instance_at instances n ≡ Some old
  pub now : i ≡ change old

module _ (change : InstanceValue → InstanceValue) (instances : List InstanceValue) (m n : ℕ) (i : InstanceValue) where
  was_changed : (o : Option InstanceValue) → instance_at instances m ≡ o
      → instance_at (changed_at change instances m o) n ≡ Some i
      → ((nat_eq m n ≡ true) × Was change instances n i)
      ⊎ ((nat_eq m n ≡ false) × (instance_at instances n ≡ Some i))
  was_changed None is e = by_test (nat_eq m n) refl where
    by_test : (b : Bool) → nat_eq m n ≡ b
        → ((nat_eq m n ≡ true) × Was change instances n i)
        ⊎ ((nat_eq m n ≡ false) × (instance_at instances n ≡ Some i))
    by_test true same =
        let none : None ≡ Some i = sym is ∙ ap (λ k. instance_at instances k) (eq_of m n same) ∙ e in
        absurd (none-some i none)
    by_test false same = inr (same, e)
  was_changed (Some v) is e =
      elim (at_with instances m n (change v) i e) [
        | inl w ↦
            let there : instance_at instances n ≡ Some v =
            ap (λ k. instance_at instances k) (sym (eq_of m n w.0)) ∙ is in
            inl (w.0, record { old = v; is_there = there; now = w.1 })
        | inr w ↦ inr w
      ]

  pub at_change : instance_at (change_at change instances m) n ≡ Some i
      → ((nat_eq m n ≡ true) × Was change instances n i)
      ⊎ ((nat_eq m n ≡ false) × (instance_at instances n ≡ Some i))
  at_change e = was_changed (instance_at instances m) refl e

length-changed : (change : InstanceValue → InstanceValue) (instances : List InstanceValue) (m : ℕ)
    (o : Option InstanceValue) → length (changed_at change instances m o) ≡ length instances
length-changed change instances m None = refl
length-changed change instances m (Some v) = length-with instances m (change v)

pub length-change : (change : InstanceValue → InstanceValue) (instances : List InstanceValue) (m : ℕ)
    → length (change_at change instances m) ≡ length instances
length-change change instances m = length-changed change instances m (instance_at instances m)

-- ---- one more is made

-- an element of two lists, one after the other
pub at_append : {X : Type 0} (xs ys : List X) (k : ℕ) (x : X) → slice_get (xs ++ ys) k ≡ Some x
    → (slice_get xs k ≡ Some x) ⊎ ((m : ℕ) × (k ≡ length xs + m) × (slice_get ys m ≡ Some x))
at_append [] ys k x e = inr (k, grind arith, e)
at_append (first ∷ rest) ys zero x e = inl e
at_append (first ∷ rest) ys (suc k) x e =
    elim (at_append rest ys k x e) [
      | inl w ↦ inl w
      | inr w ↦ inr (w.0, grind (arith, w.1), w.2)
    ]

at_single : {X : Type 0} (x y : X) (k : ℕ) → slice_get (x ∷ []) k ≡ Some y → (k ≡ 0) × (y ≡ x)
at_single x y zero e = (refl, sym (same_Some x y e))
at_single x y (suc k) e = absurd (none-some y e)

pub at_more : (instances : List InstanceValue) (new : InstanceValue) (n : ℕ) (i : InstanceValue)
    → instance_at (instances ++ new ∷ []) n ≡ Some i
    → (instance_at instances n ≡ Some i) ⊎ ((n ≡ length instances + 1) × (i ≡ new))
at_more instances new zero i e = absurd (none-some i e)
at_more instances new (suc k) i e =
    elim (at_append instances (new ∷ []) k i e) [
      | inl w ↦ inl w
      | inr w ↦
          let one = at_single new i w.0 w.2 in
          inr (omega (arith, w.1, one.0), one.1)
    ]

-- ---- which numbers are there

pub within : (instances : List InstanceValue) (n : ℕ) (i : InstanceValue) → instance_at instances n ≡ Some i
    → (0 < n) × (n < length instances + 1)
within instances zero i e = absurd (none-some i e)
within instances (suc k) i e =
    let below : k < length instances = slice_get_within instances k i e in
    (omega arith, omega (arith, below))

pub there : (instances : List InstanceValue) (n : ℕ) (i : InstanceValue) (clock : ℕ)
    → instance_at instances n ≡ Some i → is_there n (record { given = length instances; clock = clock }) ≡ true
there instances n i clock e =
    let inside = within instances n i e in
    both (nat_lt 0 n) (nat_le n (length instances)) (grind (arith, inside.0)) (grind (arith, inside.1)) where
      both : (a b : Bool) → a ≡ true → b ≡ true → (a && b) ≡ true
      both a b first second = ap (λ x. x && b) first ∙ second

pub not_there : (n : ℕ) (now : Moment) → now.given < n → is_there n now ≡ false
not_there n now beyond = either (nat_lt 0 n) (nat_le n now.given) (grind (arith, beyond)) where
  either : (a b : Bool) → b ≡ false → (a && b) ≡ false
  either true b second = second
  either false b second = refl
