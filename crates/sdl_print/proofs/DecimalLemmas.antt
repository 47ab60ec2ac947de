-- Numbers in decimal.
use Rattle.std.proofs.Common.{◌≡◌, refl, sym, ap, ◌∙◌, ℕ, ℤ, ◌+◌, ◌-◌, ◌*◌, ◌/◌, ◌%◌, ◌^◌, ◌<◌, ◌≤◌, Bool, true, false, if◌then◌else◌, List, [], ◌∷◌, ◌++◌, length, codes, arith, length-append}
use Rattle.std.specs.Prelude.{pos, negsuc}
use Rattle.std.specs.Char.{is_ascii_digit}
use Rattle.std.specs.Fmt.{decimal}
use Rattle.std.specs.Int.Signed.{mag}
use Rattle.std.specs.List.{list_all}
use Rattle.std.specs.Str.{bytes_eq}
use Rattle.std.proofs.lemmas.Bool.{and_from, false≢true}
use Rattle.std.proofs.lemmas.Bool.Decides.{nat_tests}
use Rattle.std.proofs.lemmas.Fmt.{decimal_by_steps}
use Rattle.std.proofs.lemmas.List.Folds.{list_all-append}
use Rattle.std.proofs.lemmas.List.Sums.{fold-append}
use Rattle.std.proofs.lemmas.Slice.Eq.{bytes_eq-Decides}
use Rattle.sdl_lex.specs.Kind.{IsDigits}
use Rattle.sdl_lex.specs.Kind as lex
use Rattle.sdl_tree.specs.Canonical.{gap_after}
use Rattle.sdl_print.specs.Wrote.{decimal_word}

-- the digits of a number
abbrev IsRow : ℕ → List ℕ → Type 0
IsRow n ds = (list_all is_ascii_digit ds ≡ true) × (0 < length ds) × (lex.decimal ds ≡ n)

digit : (n : ℕ) → n < 10 → is_ascii_digit (48 + n) ≡ true
digit n h = grind (arith, nat_tests)

row_one : (n : ℕ) → n < 10 → IsRow n ((48 + n) ∷ [])
row_one n h =
    let value : 10 * 0 + (48 + n - 48) ≡ n = omega arith in
    (and_from (is_ascii_digit (48 + n)) true (digit n h) refl, omega arith, value)

row_more : (n : ℕ) (ds : List ℕ) → 10 ≤ n → IsRow (n / 10) ds → IsRow n (ds ++ (48 + n % 10) ∷ [])
row_more n ds h row =
    let last : List ℕ = (48 + n % 10) ∷ [] in
    let small : n % 10 < 10 = omega arith in
    let value : 10 * lex.decimal ds + (48 + n % 10 - 48) ≡ n = omega (arith, row.2) in (
      list_all-append is_ascii_digit ds last
          ∙ and_from (list_all is_ascii_digit ds) (list_all is_ascii_digit last) row.0 (and_from (is_ascii_digit (48 + n % 10)) true (digit (n % 10) small) refl),
      omega (arith, length-append ds last),
      fold-append (λ value digit. 10 * value + (digit - 48)) 0 ds last ∙ value,
    )

are_digits : (ds : List ℕ) → list_all is_ascii_digit ds ≡ true → 0 < length ds → IsDigits ds
are_digits [] h some = absurd (omega arith)
are_digits (b ∷ ds) h some = h

decimal_row : (k : ℕ) → k ≤ 9223372036854775807 → IsRow k (decimal k)
decimal_row k small = decimal_by_steps IsRow row_one row_more k (omega arith)

-- a number in decimal is digits with its value
pub decimal_digits : (k : ℕ) → k ≤ 9223372036854775807 → IsDigits (decimal k) × (lex.decimal (decimal k) ≡ k)
decimal_digits k small = let row = decimal_row k small in (are_digits (decimal k) row.0 row.1, row.2)

no_semicolon : (ds : List ℕ) → list_all is_ascii_digit ds ≡ true → bytes_eq ds (codes ";") ≡ false
no_semicolon ds digits = of_test (bytes_eq ds (codes ";")) refl
  where
    of_test : (t : Bool) → bytes_eq ds (codes ";") ≡ t → t ≡ false
    of_test true e = absurd (false≢true (ap (list_all is_ascii_digit) (sym ((bytes_eq-Decides ds (codes ";")).0 e)) ∙ digits))
    of_test false e = refl

-- a blank stands behind a number
pub blank_behind : (n : ℤ) → mag n < 2 ^ 63 → gap_after (decimal_word n) ≡ 32 ∷ []
blank_behind (pos k) h = ap (λ b. if b then 10 ∷ [] else 32 ∷ []) (no_semicolon (decimal k) (decimal_row k (omega (arith, h))).0)
blank_behind (negsuc k) h = refl
