-- Numbers digit by digit.
use Rattle.std.proofs.Common.{◌≡◌, ◌∙◌, ◌/◌, ◌%◌, ◌<◌, ◌≤◌, ◌++◌, ℕ, List, ap, append_assoc, arith, sym}
use Rattle.std.proofs.lemmas.Fmt.{decimal_digit, decimal_step}
use Rattle.std.specs.Fmt.{decimal}

-- a number behind other text is all its digits but the last, and the last
pub decimal_parts : (bytes : List ℕ) (n : ℕ) → 10 ≤ n → n < 1000 →
    (bytes ++ decimal (n / 10)) ++ decimal (n % 10) ≡ bytes ++ decimal n
decimal_parts bytes n several few =
    append_assoc bytes (decimal (n / 10)) (decimal (n % 10))
    ∙ ap (λ digits. bytes ++ digits)
    (ap (λ last. decimal (n / 10) ++ last) (decimal_digit (n % 10) (omega arith))
    ∙ sym (decimal_step n several (omega arith)))
