-- Faults of a later part of the text, noted apart.
use Rattle.std.proofs.Common.{◌≡◌, ◌∙◌, Bool, true, false, List, [], ◌∷◌, Option, None, Some, if◌then◌else◌, refl, ap, sym}
use Rattle.build_statements.specs.Later.{with_later}
use Rattle.build_names.specs.Faults.{Diagnostic, earlier, key, least_of, precedes}
use Rattle.build_names.proofs.OrderLemmas.{less-asym, not_less-trans}

earlier-is : (old fault : Diagnostic) (b : Bool) → precedes fault old ≡ b →
    earlier (Some old) fault ≡ (if b then Some fault else Some old)
earlier-is old fault b is = ap (λ c. if c then Some fault else Some old) is

not-both : (b : Bool) → b ≡ true → b ≡ false → ⊥
not-both true p q = cc
not-both false p q = cc

-- three faults, the first of which was noted first
turns : (old x y : Diagnostic) (by_x between by_y : Bool) → precedes x old ≡ by_x → precedes y x ≡ between →
    precedes y old ≡ by_y →
    with_later (Some old) (if between then Some y else Some x) ≡ earlier (if by_x then Some x else Some old) y
turns old x y true true true a b d = earlier-is old y true d ∙ sym (earlier-is x y true b)
turns old x y true true false a b d =
    absurd (not-both (precedes y x) b
    (not_less-trans (key x) (key old) (key y) (less-asym (key x) (key old) a) d))
turns old x y true false by_y a b d = earlier-is old x true a ∙ sym (earlier-is x y false b)
turns old x y false true by_y a b d = refl
turns old x y false false by_y a b d =
    earlier-is old x false a ∙ sym (earlier-is old y false (not_less-trans (key old) (key x) (key y) a b))

first-turn : (x y : Diagnostic) (b : Bool) →
    with_later None (if b then Some y else Some x) ≡ (if b then Some y else Some x)
first-turn x y true = refl
first-turn x y false = refl

earlier-turns : (old : Option Diagnostic) (x y : Diagnostic) →
    with_later old (earlier (Some x) y) ≡ earlier (earlier old x) y
earlier-turns None x y = first-turn x y (precedes y x)
earlier-turns (Some old) x y =
    turns old x y (precedes x old) (precedes y x) (precedes y old) refl refl refl

either : (old : Option Diagnostic) (x y : Diagnostic) (ys : List Diagnostic) (b : Bool) →
    ((z : Diagnostic) → with_later old (least_of (Some z) ys) ≡ least_of (earlier old z) ys) →
    with_later old (least_of (if b then Some y else Some x) ys)
    ≡ least_of (with_later old (if b then Some y else Some x)) ys
either old x y ys true rest = rest y
either old x y ys false rest = rest x

behind : (old : Option Diagnostic) (x : Diagnostic) (ys : List Diagnostic) →
    with_later old (least_of (Some x) ys) ≡ least_of (earlier old x) ys
behind old x [] = refl
behind old x (y ∷ ys) =
    either old x y ys (precedes y x) (λ z. behind old z ys) ∙ ap (λ o. least_of o ys) (earlier-turns old x y)

pub later-noted : (old : Option Diagnostic) (faults : List Diagnostic) →
    with_later old (least_of None faults) ≡ least_of old faults
later-noted old [] = refl
later-noted old (x ∷ xs) = behind old x xs
