-- What holds of some of the first elements of a list, and of one more.
use Rattle.std.proofs.Common.{◌≡◌, ℕ, ◌⊎◌, ◌+◌, ◌≤◌, ◌↔◌, List, Some, slice_get, length, arith, inl, inr, sym, subst, ◌∙◌, ap}
use Rattle.std.proofs.lemmas.Bool.{cases_eq}
use Rattle.std.proofs.lemmas.Option.{slice_get_within}
use Rattle.build_routes.specs.Each.{ForSome, ForSomeBelow}
use Rattle.build_routes.specs.Graph.{Adds}
use Rattle.build_routes.specs.declared.network.graph.Row.{Row}
use Rattle.build_routes.specs.declared.network.graph.Step.{Step}
use Rattle.build_routes.proofs.AddLemmas.{adds_more, adds_nothing, adds_same}

pub same_element : {X : Type 0} (xs : List X) (i j : ℕ) (x y : X) → slice_get xs i ≡ Some y → slice_get xs j ≡ Some x → j ≡ i → x ≡ y
same_element xs i j x y here there same =
    let e : Some x ≡ Some y = sym there ∙ ap (λ n. slice_get xs n) same ∙ here in cc

pub below_none : {X : Type 0} (xs : List X) (P : ℕ → X → Type 0) → ForSomeBelow xs 0 P → ⊥
below_none xs P some = omega (arith, some.2)

pub below_more : {X : Type 0} (xs : List X) (i : ℕ) (P : ℕ → X → Type 0) → ForSomeBelow xs i P → ForSomeBelow xs (i + 1) P
below_more xs i P some = (some.0, some.1, omega (arith, some.2), some.3, some.4)

pub below_last : {X : Type 0} (xs : List X) (i : ℕ) (y : X) (P : ℕ → X → Type 0) → slice_get xs i ≡ Some y → P i y → ForSomeBelow xs (i + 1) P
below_last xs i y P here holds = (i, y, omega arith, here, holds)

pub below_cases : {X : Type 0} (xs : List X) (i : ℕ) (y : X) (P : ℕ → X → Type 0) → slice_get xs i ≡ Some y
    → ForSomeBelow xs (i + 1) P → ForSomeBelow xs i P ⊎ P i y
below_cases {X} xs i y P here some = elim (cases_eq some.0 i) [
  | inl same ↦ inr (subst (λ x. P i x) (same_element xs i some.0 some.1 y here some.3 same) (subst (λ n. P n some.1) same some.4))
  | inr other ↦ inl (some.0, some.1, omega (arith, some.2), some.3, some.4)
]

pub below_all : {X : Type 0} (xs : List X) (i : ℕ) (P : ℕ → X → Type 0) → length xs ≤ i → ForSome xs P ↔ ForSomeBelow xs i P
below_all xs i P all = (
  λ some. (some.0, some.1, omega (arith, slice_get_within xs some.0 some.1 some.2), some.2, some.3),
  λ some. (some.0, some.1, some.3, some.4),
)

-- a fact about some of the first elements, when one more is looked at
pub one_more : {X : Type 0} (xs : List X) (i : ℕ) (y : X) (P : ℕ → X → Type 0) (Old New : Type 0) → slice_get xs i ≡ Some y
    → Old ↔ ForSomeBelow xs i P → New ↔ (Old ⊎ P i y) → New ↔ ForSomeBelow xs (i + 1) P
one_more xs i y P Old New here old new = (
  λ is. elim (new.0 is) [ inl was ↦ below_more xs i P (old.0 was) | inr comes ↦ below_last xs i y P here comes ],
  λ some. elim (below_cases xs i y P here some) [ inl before ↦ new.1 (inl (old.1 before)) | inr last ↦ new.1 (inr last) ],
)

-- steps for each of the first elements
pub adds_first : {X : Type 0} (xs : List X) (P : ℕ → X → ℕ → Step → Type 0) (rows : List Row)
    → Adds (λ from step. ForSomeBelow xs 0 (λ n x. P n x from step)) rows rows
adds_first xs P rows = adds_nothing (λ from step. ForSomeBelow xs 0 (λ n x. P n x from step)) rows
    (λ from step some. below_none xs (λ n x. P n x from step) some)

pub adds_each : {X : Type 0} (xs : List X) (i : ℕ) (y : X) (P : ℕ → X → ℕ → Step → Type 0) (a b c : List Row) → slice_get xs i ≡ Some y
    → Adds (λ from step. ForSomeBelow xs i (λ n x. P n x from step)) a b → Adds (P i y) b c
    → Adds (λ from step. ForSomeBelow xs (i + 1) (λ n x. P n x from step)) a c
adds_each xs i y P a b c here before last =
    adds_more (λ from step. ForSomeBelow xs i (λ n x. P n x from step)) (P i y)
    (λ from step. ForSomeBelow xs (i + 1) (λ n x. P n x from step)) a b c before last
    (λ from step some. below_cases xs i y (λ n x. P n x from step) here some)
    (λ from step some. below_more xs i (λ n x. P n x from step) some)
    (λ from step is. below_last xs i y (λ n x. P n x from step) here is)

pub adds_all : {X : Type 0} (xs : List X) (i : ℕ) (P : ℕ → X → ℕ → Step → Type 0) (a b : List Row) → length xs ≤ i
    → Adds (λ from step. ForSomeBelow xs i (λ n x. P n x from step)) a b → Adds (λ from step. ForSome xs (λ n x. P n x from step)) a b
adds_all xs i P a b all adds =
    adds_same (λ from step. ForSomeBelow xs i (λ n x. P n x from step)) (λ from step. ForSome xs (λ n x. P n x from step)) a b adds
    (λ from step some. (below_all xs i (λ n x. P n x from step) all).0 some)
    (λ from step some. (below_all xs i (λ n x. P n x from step) all).1 some)

-- a search through a list
pub none_more : {X : Type 0} (xs : List X) (i : ℕ) (y : X) (P : ℕ → X → Type 0) → slice_get xs i ≡ Some y → (ForSomeBelow xs i P → ⊥) → (P i y → ⊥)
    → ForSomeBelow xs (i + 1) P → ⊥
none_more xs i y P here before last some = elim (below_cases xs i y P here some) [ inl first ↦ before first | inr at ↦ last at ]

pub none_all : {X : Type 0} (xs : List X) (i : ℕ) (P : ℕ → X → Type 0) → length xs ≤ i → (ForSomeBelow xs i P → ⊥) → ForSome xs P → ⊥
none_all xs i P all none some = none ((below_all xs i P all).0 some)
