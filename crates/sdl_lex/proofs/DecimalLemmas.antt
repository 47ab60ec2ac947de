-- The value of the first digits, and of all.
use Rattle.std.proofs.Common.{ℕ, ◌+◌, ◌-◌, ◌*◌, ◌≤◌, List, [], ◌∷◌, take, drop, sym, ap, ◌∙◌, arith, take-append-drop}
use Rattle.std.specs.Prelude.{fold}
use Rattle.std.proofs.lemmas.List.Sums.{fold-append}
use Rattle.sdl_lex.specs.Kind.{decimal}

fold-grows : (value : ℕ) (digits : List ℕ) → value ≤ fold (λ value digit. 10 * value + (digit - 48)) value digits
fold-grows value [] = omega arith
fold-grows value (b ∷ digits) = let more = fold-grows (10 * value + (b - 48)) digits in omega arith

-- more digits make no smaller number
pub decimal-take : (n : ℕ) (digits : List ℕ) → decimal (take n digits) ≤ decimal digits
decimal-take n digits =
    let whole = ap decimal (sym (take-append-drop n digits)) ∙ fold-append (λ value digit. 10 * value + (digit - 48)) 0 (take n digits) (drop n digits) in
    let more = fold-grows (decimal (take n digits)) (drop n digits) in
    omega (arith, whole)
