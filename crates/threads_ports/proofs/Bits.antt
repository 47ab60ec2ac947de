-- The bits of a set of numbers, as one is set or cleared.
use Rattle.std.proofs.Common.{◌≡◌, ◌≢◌, ℕ, ◌+◌, ◌*◌, ◌/◌, ◌%◌, ◌^◌, ◌<◌, ◌≤◌, true, false, eqb, List, length, set, get_or, sym, ap, ◌∙◌, ⊎_elim, arith}
use Rattle.std.specs.Int.{bit_at, bit_not, w64}
use Rattle.std.specs.Int.RustNames.{bit_and, bit_or}
use Rattle.std.proofs.lemmas.Bool.{cases_eq, cases_lt}
use Rattle.std.proofs.lemmas.List.{get_or-set_same, get_or-set_other}
use Rattle.std.proofs.lemmas.Nat.Bits.{bit_at-zero, bit_at_set_same, bit_at_set_other, bit_at_clear_same, bit_at_clear_other}
use Rattle.threads_ports.specs.Words.{is_set}

-- a word in which a bit is set, and in which it is cleared
abbrev pub set_in : ℕ → ℕ → ℕ
set_in word bit = bit_or word (1 * 2 ^ bit % 2 ^ 64)

abbrev pub cleared_in : ℕ → ℕ → ℕ
cleared_in word bit = bit_and word (bit_not w64 (1 * 2 ^ bit % 2 ^ 64))

-- the words once the bit of a number is set, or cleared
abbrev pub with_bit : List ℕ → ℕ → List ℕ
with_bit words m = set words (m / 64) (set_in (get_or words (m / 64) 0) (m % 64))

abbrev pub without_bit : List ℕ → ℕ → List ℕ
without_bit words m = set words (m / 64) (cleared_in (get_or words (m / 64) 0) (m % 64))

-- a word is written at the place of m: what is set of m, and of others in that word and in other words
module _ (words : List ℕ) (m word : ℕ) (within : m / 64 < length words) where
  written_same : eqb (bit_at word (m % 64)) 1 ≡ is_set (set words (m / 64) word) m
  written_same = ap (λ w. eqb (bit_at w (m % 64)) 1) (sym (get_or-set_same words (m / 64) word 0 within))

  written_other : ((i : ℕ) → i < 64 → i ≢ m % 64 → bit_at word i ≡ bit_at (get_or words (m / 64) 0) i)
      → (k : ℕ) → k ≢ m → is_set (set words (m / 64) word) k ≡ is_set words k
  written_other keeps k other =
      ⊎_elim
      (λ (same : k / 64 ≡ m / 64).
      let there : get_or (set words (m / 64) word) (k / 64) 0 ≡ word =
      ap (λ i. get_or (set words (m / 64) word) i 0) same ∙ get_or-set_same words (m / 64) word 0 within in
      let kept = keeps (k % 64) (omega arith) (λ e. other (omega arith)) in
      ap (λ w. eqb (bit_at w (k % 64)) 1) there ∙ ap (λ b. eqb b 1) kept
      ∙ ap (λ i. eqb (bit_at (get_or words i 0) (k % 64)) 1) (sym same))
      (λ (apart : k / 64 ≢ m / 64).
      ap (λ w. eqb (bit_at w (k % 64)) 1) (get_or-set_other words (m / 64) (k / 64) word 0 apart))
      (cases_eq (k / 64) (m / 64))

module _ (words : List ℕ) (m : ℕ) (within : m / 64 < length words) where
  pub set_same : is_set (with_bit words m) m ≡ true
  set_same =
      sym (written_same words m (set_in (get_or words (m / 64) 0) (m % 64)) within)
      ∙ ap (λ b. eqb b 1) (bit_at_set_same w64 (get_or words (m / 64) 0) (m % 64) (omega arith))

  pub set_other : (k : ℕ) → k ≢ m → is_set (with_bit words m) k ≡ is_set words k
  set_other =
      written_other words m (set_in (get_or words (m / 64) 0) (m % 64)) within
      (λ i _ other. bit_at_set_other w64 (get_or words (m / 64) 0) (m % 64) (omega arith) i other)

  pub clear_same : is_set (without_bit words m) m ≡ false
  clear_same =
      sym (written_same words m (cleared_in (get_or words (m / 64) 0) (m % 64)) within)
      ∙ ap (λ b. eqb b 1) (bit_at_clear_same w64 (get_or words (m / 64) 0) (m % 64) (omega arith))

  pub clear_other : (k : ℕ) → k ≢ m → is_set (without_bit words m) k ≡ is_set words k
  clear_other =
      written_other words m (cleared_in (get_or words (m / 64) 0) (m % 64)) within
      (λ i small other. bit_at_clear_other w64 (get_or words (m / 64) 0) (m % 64) (omega arith) i small other)

-- ---- words without a bit

-- no bit of a word that is 0 is set
pub zero_word : (words : List ℕ) (k : ℕ) → get_or words (k / 64) 0 ≡ 0 → is_set words k ≡ false
zero_word words k none = ap (λ w. eqb (bit_at w (k % 64)) 1) none ∙ ap (λ b. eqb b 1) (bit_at-zero (k % 64))

-- the lowest bit of the first word that isn't 0
module _ (words : List ℕ) (place word bit : ℕ) (here : get_or words place 0 ≡ word) (low : bit < 64) where
  number : ((place * 64 + bit) / 64 ≡ place) × ((place * 64 + bit) % 64 ≡ bit)
  number = (omega arith, omega arith)

  pub lowest_set : bit_at word bit ≡ 1 → is_set words (place * 64 + bit) ≡ true
  lowest_set one =
      ap (λ i. eqb (bit_at (get_or words i 0) ((place * 64 + bit) % 64)) 1) number.0
      ∙ ap (λ i. eqb (bit_at (get_or words place 0) i) 1) number.1
      ∙ ap (λ w. eqb (bit_at w bit) 1) here
      ∙ ap (λ b. eqb b 1) one

  pub none_below : ((k : ℕ) → k < bit → bit_at word k ≡ 0) → ((j : ℕ) → j < place → get_or words j 0 ≡ 0)
      → (k : ℕ) → k < place * 64 + bit → is_set words k ≡ false
  none_below lower before k less =
      ⊎_elim
      (λ (earlier : k / 64 < place). zero_word words k (before (k / 64) earlier))
      (λ (later : place ≤ k / 64).
      let same : k / 64 ≡ place = omega arith in
      ap (λ i. eqb (bit_at (get_or words i 0) (k % 64)) 1) same
      ∙ ap (λ w. eqb (bit_at w (k % 64)) 1) here
      ∙ ap (λ b. eqb b 1) (lower (k % 64) (omega arith)))
      (cases_lt (k / 64) place)
