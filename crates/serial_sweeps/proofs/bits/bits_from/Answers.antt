use Rattle.std.proofs.Common.{◌≡◌, ◌-◌, ◌^◌, ◌<◌, ℕ, min, bit_and, ap, ◌∙◌, arith}
use Rattle.std.specs.Int.{bit_at}
use Rattle.std.proofs.lemmas.Nat.Bits.{bit_at-lt, bit_at_and, bit_at_mask_below, bit_at_mask_inside, ones_shl}
use Rattle.serial_sweeps.proofs.bits.bits_from.Goals as goal

-- a bit of a word under a mask
masked : (word mask i b : ℕ) → bit_at mask i ≡ b → bit_at (bit_and word mask) i ≡ min (bit_at word i) b
masked word mask i b is = bit_at_and word mask i ∙ ap (min (bit_at word i)) is

pub returns : goal.returns
returns c =
    let word = c.args.word in
    let bit = c.args.bit in
    let lt = c.requires in
    let mask = ones_shl 64 bit (omega (arith, lt)) in
    record {
      below = λ i before. ap (λ m. bit_at (bit_and word m) i) mask
          ∙ masked word (2 ^ 64 - 2 ^ bit) i 0 (bit_at_mask_below bit 64 i before) ∙ none (bit_at word i);
      kept = λ i behind within. ap (λ m. bit_at (bit_and word m) i) mask
          ∙ masked word (2 ^ 64 - 2 ^ bit) i 1 (bit_at_mask_inside bit 64 i behind within)
          ∙ one (bit_at word i) (bit_at-lt word i);
    }
  where
    none : (b : ℕ) → min b 0 ≡ 0
    none b = omega arith

    one : (b : ℕ) → b < 2 → min b 1 ≡ b
    one b lt = omega (arith, lt)
