-- Laws of the operations and of the sorts.
use Rattle.std.specs.Prelude.{◌≡◌, ◌≢◌, ◌↔◌, ◌<◌, ◌≤ℤ◌, ◌<ℤ◌, ◌+ℤ◌, ◌*ℤ◌, ℤ, pos, true, None, Some, IfSome, int_div, int_rem, unsigned_abs}
use Rattle.std.specs.Int.{int_rem_euclid}
use Rattle.port_model.specs.declared.values.value.Value.{Value}
use Rattle.sdl_system.specs.Operation.{compared, number_of, unsorted}
use Rattle.sdl_system.specs.Sort.{as_sort, has_sort}
use Rattle.sdl_system.specs.declared.operation.Comparison.TheVariants.{Equal}
use Rattle.sdl_system.specs.declared.sort.Sort as declared
use Rattle.sdl_system.specs.declared.sort.Sort.TheVariants as sort

-- two values are equal where they are the same but for the sort of a number
abbrev pub EqualIsSame : Type 0
EqualIsSame = (left right : Value) → (compared Equal left right ≡ true) ↔ (unsorted left ≡ unsorted right)

-- A quotient and a remainder: together they give the dividend, and the remainder is less than the divisor and has the
-- dividend's sign. So the quotient is truncated towards zero.
pub record Divides (left right : ℤ) : Type 0 where
  pub whole : (int_div left right *ℤ right) +ℤ int_rem left right ≡ left
  pub below : unsigned_abs (int_rem left right) < unsigned_abs right
  pub from_above : pos 0 ≤ℤ left → pos 0 ≤ℤ int_rem left right
  pub from_below : left ≤ℤ pos 0 → int_rem left right ≤ℤ pos 0

abbrev pub DividesAll : Type 0
DividesAll = (left right : ℤ) → right ≢ pos 0 → Divides left right

-- `mod` differs from the dividend by a multiple of the divisor, and lies from 0 to the divisor's amount less one
pub record IsModulo (left right modulo : ℤ) : Type 0 where
  pub multiple : ℤ
  pub whole : (multiple *ℤ right) +ℤ modulo ≡ left
  pub natural : pos 0 ≤ℤ modulo
  pub below : unsigned_abs modulo < unsigned_abs right

abbrev pub ModuloOfAll : Type 0
ModuloOfAll = (left right : ℤ) → right ≢ pos 0 → IsModulo left right (int_rem_euclid left right)

-- what a value is at a place has the sort of the place
abbrev pub TakesSort : Type 0
TakesSort = (one : declared.Sort) (value : Value) → IfSome (as_sort one value) (λ there. has_sort one there ≡ true)

-- a value that has the sort of the place stays as it is
abbrev pub KeepsSort : Type 0
KeepsSort = (one : declared.Sort) (value : Value) → has_sort one value ≡ true → as_sort one value ≡ Some value

-- a value has no place where that is Natural and the value negative, and nowhere else
abbrev pub RefusesNegatives : Type 0
RefusesNegatives = (one : declared.Sort) (value : Value)
    → (as_sort one value ≡ None) ↔ ((one ≡ sort.Natural) × (number_of value <ℤ pos 0))
