use Rattle.std.proofs.Common.{◌≡◌, ◌≢◌, ℕ, zero, suc, ◌+◌, ◌<◌, ◌≤◌, cond, nat_eq, List, [], ◌∷◌, ◌++◌, length, get_or, set, sym, refl, ap, subst, ⊎_elim, arith}
use Rattle.std.specs.Prelude.{sum_by}
use Rattle.std.proofs.lemmas.Bool.Decides.{nat_tests}
use Rattle.std.proofs.lemmas.List.Sums.{sum_by-cons, sum_by-append, sum_by_push, sum_by-set, get_or-le-sum_by}
use mathlib.Core.Option.{some, some-injective, some-ne-none}
use lib.ListN.{get_elem?}
use Rattle.atomic_table.proofs.Lists.{at_set}
use Rattle.threads_ports.specs.declared.instances.rule.View.{View}
use Rattle.threads_ports.specs.Numbers.{times, one_to}
use Rattle.threads_ports.specs.Rule.{EachView}
use Rattle.threads_ports.specs.Views.{spent}

-- a view stands at its place
pub stands : (views : List View) (i : ℕ) (v : View) → get_elem? views i ≡ some v
    → (i < length views) × (get_or views i v ≡ v)
stands [] i v e = absurd (some-ne-none v (sym e))
stands (x ∷ xs) zero v e = (omega arith, some-injective x v e)
stands (x ∷ xs) (suc i) v e = let rest = stands xs i v e in (omega arith, rest.1)

-- what one view adds is at most the sum
pub sum_at : (f : View → ℕ) (views : List View) (i : ℕ) (v : View) → get_elem? views i ≡ some v → f v ≤ sum_by f views
sum_at f views i v e = let at = stands views i v e in rw at.1 at (get_or-le-sum_by f views i v at.0)

-- the sum after one view is changed
pub sum_set : (f : View → ℕ) (views : List View) (i : ℕ) (v w : View) → get_elem? views i ≡ some v → sum_by f (set views i w) + f v ≡ sum_by f views + f w
sum_set f views i v w e = let at = stands views i v e in rw at.1 at (sum_by-set f views i w v at.0)

-- a fact of each view, after one view is changed
pub each_set : (F : View → Type 0) (views : List View) (seat : ℕ) (w : View) → F w → EachView (λ j. F) views
    → EachView (λ j. F) (set views seat w)
each_set F views seat w mine others j u e =
    ⊎_elim (λ (x : (j ≡ seat) × (w ≡ u)). subst F x.1 mine)
    (λ (x : (j ≢ seat) × (get_elem? views j ≡ some u)). others j u x.1) (at_set views seat j w u e)

-- a view with no part of the right has drawn nothing
abbrev pub IsIdle : View → Type 0
IsIdle v = v.parts ≡ 0 → v.drawn ≡ []

-- where all are such and no part is left, x was drawn by none
none : (x : ℕ) (views : List View) → EachView (λ j. IsIdle) views → sum_by (λ v. v.parts) views ≡ 0
    → sum_by (λ v. times x v.drawn) views ≡ 0
none x [] idle e = refl
none x (v ∷ vs) idle e =
    let p = sum_by-cons (λ (u : View). u.parts) v vs in
    let s = sum_by-cons (λ (u : View). times x u.drawn) v vs in
    let here = ap (times x) (idle 0 v refl (omega arith)) in
    let rest = none x vs (λ j u at. idle (suc j) u at) (omega arith) in omega arith

-- and where one has all parts, by that one alone
pub whole_sum : (x : ℕ) (views : List View) (i : ℕ) (v : View) → get_elem? views i ≡ some v
    → EachView (λ j. IsIdle) views
    → sum_by (λ u. u.parts) views ≡ v.parts → sum_by (λ u. times x u.drawn) views ≡ times x v.drawn
whole_sum x views i v at idle all =
    let p = sum_set (λ u. u.parts) views i v spent at in
    let s = sum_set (λ u. times x u.drawn) views i v spent at in
    let rest = none x (set views i spent) (each_set IsIdle views i spent (λ e. refl) idle) (omega arith) in omega arith

-- how often a number stands in a list with one number more
pub times_push : (x y : ℕ) (xs : List ℕ) → times x (xs ++ y ∷ []) ≡ times x xs + cond (nat_eq y x) 1 0
times_push x y xs = sum_by_push (λ z. cond (nat_eq z x) 1 0) xs y

pub times-append : (x : ℕ) (xs ys : List ℕ) → times x (xs ++ ys) ≡ times x xs + times x ys
times-append x xs ys = sum_by-append (λ z. cond (nat_eq z x) 1 0) xs ys

-- 1, 2, .. n has no number past n, and none twice
pub one_to_past : (n x : ℕ) → n < x → times x (one_to n) ≡ 0
one_to_past zero x h = refl
one_to_past (suc n) x h =
    let t = times_push x (suc n) (one_to n) in let p = one_to_past n x (omega arith) in grind (arith, nat_tests)

pub one_to_once : (n x : ℕ) → times x (one_to n) ≤ 1
one_to_once zero x = omega arith
one_to_once (suc n) x =
    let t = times_push x (suc n) (one_to n) in let p = one_to_past n x in let q = one_to_once n x in
    grind (arith, nat_tests)
