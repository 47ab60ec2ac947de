-- The order of lists of numbers.
use Rattle.std.proofs.Common.{◌≡◌, ℕ, ◌==◌, ◌&&◌, ◌||◌, Bool, true, false, List, [], ◌∷◌, nat_lt, refl, arith}
use Rattle.std.proofs.lemmas.Bool.Decides.{nat_tests}
use Rattle.build_names.specs.Faults.{is_less}

-- one more number in front: the first list does not come behind the third
behind-trans : (x y z : ℕ) (a b c : Bool) → (a ≡ false → b ≡ false → c ≡ false) →
    (nat_lt y x || (y == x && a)) ≡ false → (nat_lt z y || (z == y && b)) ≡ false →
    (nat_lt z x || (z == x && c)) ≡ false
behind-trans x y z a b c rest first second = grind (arith, nat_tests)

-- what does not come before one list, and has a second that does not come before it, is not behind that one
pub not_less-trans : (xs ys zs : List ℕ) → is_less ys xs ≡ false → is_less zs ys ≡ false → is_less zs xs ≡ false
not_less-trans [] ys [] first second = refl
not_less-trans [] ys (z ∷ zs) first second = refl
not_less-trans (x ∷ xs) [] zs first second = cc
not_less-trans (x ∷ xs) (y ∷ ys) [] first second = cc
not_less-trans (x ∷ xs) (y ∷ ys) (z ∷ zs) first second =
    behind-trans x y z (is_less ys xs) (is_less zs ys) (is_less zs xs) (not_less-trans xs ys zs) first second

before-asym : (x y : ℕ) (a b : Bool) → (a ≡ true → b ≡ false) → (nat_lt x y || (x == y && a)) ≡ true →
    (nat_lt y x || (y == x && b)) ≡ false
before-asym x y a b rest first = grind (arith, nat_tests)

pub less-asym : (xs ys : List ℕ) → is_less xs ys ≡ true → is_less ys xs ≡ false
less-asym [] [] first = refl
less-asym [] (y ∷ ys) first = refl
less-asym (x ∷ xs) [] first = cc
less-asym (x ∷ xs) (y ∷ ys) first = before-asym x y (is_less xs ys) (is_less ys xs) (less-asym xs ys) first

before-same : (x : ℕ) (a : Bool) → a ≡ false → (nat_lt x x || (x == x && a)) ≡ false
before-same x a rest = grind (arith, nat_tests)

pub not_less-same : (xs : List ℕ) → is_less xs xs ≡ false
not_less-same [] = refl
not_less-same (x ∷ xs) = before-same x (is_less xs xs) (not_less-same xs)
