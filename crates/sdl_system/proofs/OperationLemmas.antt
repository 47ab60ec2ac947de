-- Operations and sorts.
use Rattle.std.proofs.Common.{◌≡◌, ◌≢◌, ◌↔◌, ◌∙◌, ◌<◌, ◌≤ℤ◌, ◌<ℤ◌, ◌+ℤ◌, ◌*ℤ◌, ◌+◌, ◌-◌, ◌*◌, ◌/◌, ◌%◌, ℕ, zero, suc, ℤ, pos, negsuc, neg_ℤ, true, None, Some, IfSome, refl, ap, arith, int_rem, unsigned_abs}
use Rattle.std.specs.Int.{int_div_euclid, int_rem_euclid}
use Rattle.std.proofs.lemmas.Int.{ints, quot-rem, rem_below}
use Rattle.std.proofs.lemmas.Nat.{div-add-mod'}
use Rattle.port_model.specs.Same.{same_value-Decides}
use Rattle.port_model.specs.declared.values.value.Value.{Value}
use Rattle.port_model.specs.declared.values.value.Value.TheVariants as value
use Rattle.sdl_system.specs.Operation.{compared, number_of, unsorted}
use Rattle.sdl_system.specs.OperationLaws.{Divides, IsModulo}
use Rattle.sdl_system.specs.Sort.{as_natural, as_sort, has_sort}
use Rattle.sdl_system.specs.declared.operation.Comparison.TheVariants.{Equal}
use Rattle.sdl_system.specs.declared.sort.Sort.{Sort}
use Rattle.sdl_system.specs.declared.sort.Sort.TheVariants as sort

pub equal_is_same : (left right : Value) → (compared Equal left right ≡ true) ↔ (unsorted left ≡ unsorted right)
equal_is_same left right = same_value-Decides (unsorted left) (unsorted right)

-- ---- division

some_amount : (z : ℤ) → z ≢ pos 0 → 0 < unsigned_abs z
some_amount (pos zero) some = absurd (some refl)
some_amount (pos (suc n)) some = omega arith
some_amount (negsuc n) some = omega arith

at_most_zero : (n : ℕ) → neg_ℤ (pos n) ≤ℤ pos 0
at_most_zero zero = omega (arith, ints)
at_most_zero (suc n) = omega (arith, ints)

nothing_left : (n : ℕ) → 0 < n → 0 % n ≡ 0
nothing_left n some = omega (arith, div-add-mod' 0 n)

sign_above : (a b : ℤ) → pos 0 ≤ℤ a → pos 0 ≤ℤ int_rem a b
sign_above (pos a) b h = omega (arith, ints)
sign_above (negsuc a) b h = absurd (omega (arith, ints))

sign_below : (a b : ℤ) → 0 < unsigned_abs b → a ≤ℤ pos 0 → int_rem a b ≤ℤ pos 0
sign_below (pos zero) b some h = let none = nothing_left (unsigned_abs b) some in omega (arith, ints)
sign_below (pos (suc a)) b some h = absurd (omega (arith, ints))
sign_below (negsuc a) b some h = at_most_zero (suc a % unsigned_abs b)

pub divides_all : (left right : ℤ) → right ≢ pos 0 → Divides left right
divides_all left right some = record {
  whole = quot-rem left right;
  below = rem_below left right (some_amount right some);
  from_above = sign_above left right;
  from_below = sign_below left right (some_amount right some);
}

-- ---- mod

negative_times : (q b : ℕ) → neg_ℤ (pos q) *ℤ negsuc b ≡ pos (q * suc b)
negative_times zero b = omega (arith, ints)
negative_times (suc q) b = refl

-- one more than the quotient of a, times the divisor, is what is missing to the divisor above a
past : (a d : ℕ) → 0 < d → neg_ℤ (pos (suc (a / d) * d)) +ℤ pos (d - 1 - a % d) ≡ negsuc a
past a d some =
    let whole = div-add-mod' a d in
    let product : suc (a / d) * d ≡ a / d * d + d = omega arith in
    omega (arith, ints)

whole_modulo : (a b : ℤ) → 0 < unsigned_abs b → (int_div_euclid a b *ℤ b) +ℤ int_rem_euclid a b ≡ a
whole_modulo (pos a) (pos b) some = ap pos (div-add-mod' a b)
whole_modulo (pos a) (negsuc b) some =
    ap (λ (z : ℤ). z +ℤ pos (a % suc b)) (negative_times (a / suc b) b) ∙ ap pos (div-add-mod' a (suc b))
whole_modulo (negsuc a) (pos b) some = past a b some
whole_modulo (negsuc a) (negsuc b) some = past a (suc b) some

natural_modulo : (a b : ℤ) → pos 0 ≤ℤ int_rem_euclid a b
natural_modulo (pos a) b = omega (arith, ints)
natural_modulo (negsuc a) b = omega (arith, ints)

below_modulo : (a b : ℤ) → 0 < unsigned_abs b → unsigned_abs (int_rem_euclid a b) < unsigned_abs b
below_modulo (pos a) b some = omega arith
below_modulo (negsuc a) b some = omega arith

pub modulo_of_all : (left right : ℤ) → right ≢ pos 0 → IsModulo left right (int_rem_euclid left right)
modulo_of_all left right some = record {
  multiple = int_div_euclid left right;
  whole = whole_modulo left right (some_amount right some);
  natural = natural_modulo left right;
  below = below_modulo left right (some_amount right some);
}

-- ---- sorts

natural_sort : (z : ℤ) → IfSome (as_natural z) (λ there. has_sort sort.Natural there ≡ true)
natural_sort (pos n) = refl
natural_sort (negsuc n) = tt

pub takes_sort : (one : Sort) (v : Value) → IfSome (as_sort one v) (λ there. has_sort one there ≡ true)
takes_sort sort.Boolean v = refl
takes_sort sort.Integer v = refl
takes_sort sort.Natural v = natural_sort (number_of v)
takes_sort sort.Pid v = refl
takes_sort sort.Time v = refl
takes_sort sort.Duration v = refl

pub keeps_sort : (one : Sort) (v : Value) → has_sort one v ≡ true → as_sort one v ≡ Some v
keeps_sort sort.Boolean (value.Bool b) h = refl
keeps_sort sort.Integer (value.Int z) h = refl
keeps_sort sort.Natural (value.Int (pos n)) h = refl
keeps_sort sort.Pid (value.Pid p) h = refl
keeps_sort sort.Time (value.Time z) h = refl
keeps_sort sort.Duration (value.Duration z) h = refl
keeps_sort one v h = cc

natural_refused : (z : ℤ) → (as_natural z ≡ None) ↔ ((sort.Natural ≡ sort.Natural) × (z <ℤ pos 0))
natural_refused (pos n) = (λ none. cc, λ both. absurd (let below : pos n <ℤ pos 0 = both.1 in omega (arith, ints)))
natural_refused (negsuc n) = (λ none. (refl, omega (arith, ints)), λ both. refl)

pub refuses_negatives : (one : Sort) (v : Value) → (as_sort one v ≡ None) ↔
    ((one ≡ sort.Natural) × (number_of v <ℤ pos 0))
refuses_negatives sort.Natural v = natural_refused (number_of v)
refuses_negatives sort.Boolean v = (λ none. cc, λ both. let is = both.0 in cc)
refuses_negatives sort.Integer v = (λ none. cc, λ both. let is = both.0 in cc)
refuses_negatives sort.Pid v = (λ none. cc, λ both. let is = both.0 in cc)
refuses_negatives sort.Time v = (λ none. cc, λ both. let is = both.0 in cc)
refuses_negatives sort.Duration v = (λ none. cc, λ both. let is = both.0 in cc)
