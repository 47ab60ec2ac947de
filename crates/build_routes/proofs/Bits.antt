-- The signals of masks that were joined, and of masks that were cut by another.
use Rattle.std.proofs.Common.{ℕ, ◌⊎◌, arith}
use Rattle.std.specs.Prelude.{bit_and, bit_or}
use Rattle.std.proofs.lemmas.Nat.Bits.{bit_at_and, bit_at_or, bit_at-zero, bit_at-lt}
use Rattle.build_routes.specs.Mask.{Bit}

pub or_left : (a b k : ℕ) → Bit a k → Bit (bit_or a b) k
or_left a b k h = omega (arith, bit_at_or a b k, bit_at-lt b k)

pub or_right : (a b k : ℕ) → Bit b k → Bit (bit_or a b) k
or_right a b k h = omega (arith, bit_at_or a b k, bit_at-lt a k)

pub or_cases : (a b k : ℕ) → Bit (bit_or a b) k → Bit a k ⊎ Bit b k
or_cases a b k h = grind (arith, bit_at_or a b k, bit_at-lt a k, bit_at-lt b k)

pub and_both : (a b k : ℕ) → Bit a k → Bit b k → Bit (bit_and a b) k
and_both a b k g h = omega (arith, bit_at_and a b k)

pub and_left : (a b k : ℕ) → Bit (bit_and a b) k → Bit a k
and_left a b k h = omega (arith, bit_at_and a b k, bit_at-lt a k, bit_at-lt b k)

pub and_right : (a b k : ℕ) → Bit (bit_and a b) k → Bit b k
and_right a b k h = omega (arith, bit_at_and a b k, bit_at-lt a k, bit_at-lt b k)

pub no_bit : (k : ℕ) → Bit 0 k → ⊥
no_bit k h = omega (arith, bit_at-zero k)
