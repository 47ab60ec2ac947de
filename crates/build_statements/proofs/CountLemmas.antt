-- Lists, and how often labels stand in them.
use Rattle.std.proofs.Common.{◌≡◌, ◌⊎◌, inl, inr, ℕ, zero, suc, ◌+◌, ◌==◌, ◌++◌, List, [], ◌∷◌, Some, arith, cond, flat_map, length, map, slice_get, refl}
use Rattle.build_statements.specs.Labels.{times}
use Rattle.build_names.specs.FaultLaws.{In}
use Rattle.sdl_system.specs.declared.id.LabelId.{LabelId}

-- ---- places in a list

pub kept-behind : {A : Type 0} (xs ys : List A) (n : ℕ) (x : A) → slice_get xs n ≡ Some x →
    slice_get (xs ++ ys) n ≡ Some x
kept-behind [] ys zero x is = cc
kept-behind [] ys (suc n) x is = cc
kept-behind (y ∷ xs) ys zero x is = is
kept-behind (y ∷ xs) ys (suc n) x is = kept-behind xs ys n x is

pub at-end : {A : Type 0} (xs : List A) (x : A) → slice_get (xs ++ x ∷ []) (length xs) ≡ Some x
at-end [] x = refl
at-end (y ∷ xs) x = at-end xs x

pub in-append : {A : Type 0} (x : A) (xs ys : List A) → In x (xs ++ ys) → In x xs ⊎ In x ys
in-append x [] ys at = inr at
in-append x (y ∷ xs) ys at =
    elim at [
      | inl e ↦ inl (inl e)
      | inr i ↦ elim (in-append x xs ys i) [ inl left ↦ inl (inr left) | inr right ↦ inr right ]
    ]

-- ---- how often

pub none-plus : (n : ℕ) → n ≡ 0 + n
none-plus n = omega arith

sum-first : (a b d n : ℕ) → n ≡ b + d → a + n ≡ (a + b) + d
sum-first a b d n is = omega (arith, is)

pub times-append : (l : LabelId) (xs ys : List LabelId) → times l (xs ++ ys) ≡ times l xs + times l ys
times-append l [] ys = none-plus (times l ys)
times-append l (x ∷ xs) ys =
    sum-first (cond (x.0 == l.0) 1 0) (times l xs) (times l ys) (times l (xs ++ ys)) (times-append l xs ys)

sum-last : (a b d n m k : ℕ) → n ≡ a + m → m ≡ b + d → k ≡ a + d → n ≡ b + k
sum-last a b d n m k first second third = omega (arith, first, second, third)

-- what one more element of a list gives
pub gathers-last : {A : Type 0} (l : LabelId) (f : A → List LabelId) (xs : List A) (x : A) →
    times l (flat_map f (xs ++ x ∷ [])) ≡ times l (f x) + times l (flat_map f xs)
gathers-last l f [] x = times-append l (f x) []
gathers-last l f (y ∷ xs) x =
    sum-last (times l (f y)) (times l (f x)) (times l (flat_map f xs)) _ _ _
    (times-append l (f y) (flat_map f (xs ++ x ∷ []))) (gathers-last l f xs x)
    (times-append l (f y) (flat_map f xs))

-- a list with one more behind it
pub maps-last : {A : Type 0} (l : LabelId) (f : A → LabelId) (xs : List A) (x : A) →
    times l (map f (xs ++ x ∷ [])) ≡ cond ((f x).0 == l.0) 1 0 + times l (map f xs)
maps-last l f [] x = refl
maps-last l f (y ∷ xs) x =
    sum-last (cond ((f y).0 == l.0) 1 0) (cond ((f x).0 == l.0) 1 0) (times l (map f xs)) _ _ _ refl
    (maps-last l f xs x) refl
