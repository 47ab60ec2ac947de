-- Who is among those that may have something to do, once one more is woken.
use Rattle.std.proofs.Common.{◌≡◌, ◌≢◌, ◌<◌, ◌≤◌, ◌⊎◌, ◌↔◌, ℕ, List, Result, Ok, Err, arith, inl, inr, subst, sym}
use Rattle.std.specs.Prelude.{Contains, OnErr, OnOk}
use Rattle.settle_rest.specs.Woken.{AreNumbers, AreUpTo}

-- a number is not 0
pub woken : (number : ℕ) (old new : List ℕ) → 0 < number
    → ((n : ℕ) → Contains new n ↔ ((n ≡ number) ⊎ Contains old n))
    → (n : ℕ) → Contains new n ↔ (((0 < n) × (n ≡ number)) ⊎ Contains old n)
woken number old new some is n = (
  λ there. elim ((is n).0 there) as (λ _. ((0 < n) × (n ≡ number)) ⊎ Contains old n) [
    | inl same ↦ inl (omega (arith, some, same), same)
    | inr before ↦ inr before
  ],
  λ either. (is n).1 (elim either as (λ _. (n ≡ number) ⊎ Contains old n) [
    | inl here ↦ inl here.1
    | inr before ↦ inr before
  ]),
)

module _ {A B : Type 0} (number : ℕ) (old new : List ℕ) where
  -- who was among them is so still, whether one is woken or not
  pub still_there : (result : Result A B) → OnOk result ((n : ℕ) → Contains new n ↔ ((n ≡ number) ⊎ Contains old n))
      → OnErr result (new ≡ old) → (n : ℕ) → Contains old n → Contains new n
  still_there (Ok done) is same n there = (is n).1 (inr there)
  still_there (Err why) is same n there = subst (λ (ready : List ℕ). Contains ready n) (sym same) there

  pub numbers_still : (result : Result A B) → 0 < number
      → OnOk result ((n : ℕ) → Contains new n ↔ ((n ≡ number) ⊎ Contains old n))
      → OnErr result (new ≡ old) → AreNumbers old → AreNumbers new
  numbers_still (Ok done) some is same are n there = elim ((is n).0 there) as (λ _. 0 < n) [
    | inl here ↦ omega (arith, some, here)
    | inr before ↦ are n before
  ]
  numbers_still (Err why) some is same are n there =
      are n (subst (λ (ready : List ℕ). Contains ready n) same there)

  pub up_to_more : (result : Result A B) (greatest more : ℕ) → greatest ≤ more → number ≤ more
      → OnOk result ((n : ℕ) → Contains new n ↔ (((0 < n) × (n ≡ number)) ⊎ Contains old n))
      → OnErr result (new ≡ old) → AreUpTo greatest old → AreUpTo more new
  up_to_more (Ok done) greatest more low here is same up n there = elim ((is n).0 there) as (λ _. n ≤ more) [
    | inl one ↦ omega (arith, here, one.1)
    | inr before ↦ omega (arith, low, up n before)
  ]
  up_to_more (Err why) greatest more low here is same up n there =
      omega (arith, low, up n (subst (λ (ready : List ℕ). Contains ready n) same there))

-- one of them rests
pub numbers_left : (number : ℕ) (old new : List ℕ) → ((n : ℕ) → Contains new n ↔ (Contains old n × (n ≢ number)))
    → AreNumbers old → AreNumbers new
numbers_left number old new is are n there = are n ((is n).0 there).0
