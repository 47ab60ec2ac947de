-- Numbers three digits at a time.
use Rattle.std.proofs.Common.{◌≡◌, ◌∙◌, ◌/◌, ◌%◌, ◌^◌, ◌<◌, ◌≤◌, ◌++◌, ℕ, List, ap, append_assoc, arith, sym}
use Rattle.std.proofs.lemmas.Fmt.{decimal_digit, decimal_step}
use Rattle.std.specs.Fmt.{decimal}
use Rattle.sdl_report.specs.Digits.{three_digits}

-- all digits but the last, and the last
last_digit : (n : ℕ) → 10 ≤ n → n < 2 ^ 64 → decimal n ≡ decimal (n / 10) ++ decimal (n % 10)
last_digit n several fits =
    decimal_step n several fits ∙ ap (λ l. decimal (n / 10) ++ l) (sym (decimal_digit (n % 10) (omega arith)))

last_two : (n : ℕ) → 100 ≤ n → n < 2 ^ 64 → decimal n ≡ decimal (n / 100) ++ decimal (n / 10 % 10) ++ decimal (n % 10)
last_two n several fits =
    last_digit n (omega arith) fits
    ∙ ap (λ l. l ++ decimal (n % 10))
    (last_digit (n / 10) (omega arith) (omega arith)
    ∙ ap (λ m. decimal m ++ decimal (n / 10 % 10)) (omega arith))

three_parts : (before : List ℕ) (a b c a' b' c' : ℕ) → a ≡ a' → b ≡ b' → c ≡ c'
    → before ++ decimal a ++ decimal b ++ decimal c ≡ before ++ (decimal a' ++ decimal b' ++ decimal c')
three_parts before a b c a' b' c' first second third =
    ap (λ l. l ++ decimal c) (append_assoc before (decimal a) (decimal b))
    ∙ append_assoc before (decimal a ++ decimal b) (decimal c)
    ∙ ap (λ l. before ++ l) (cc)

-- three digits
pub three_all : (n : ℕ) → 100 ≤ n → n < 1000 → decimal n ≡ three_digits n
three_all n several few = last_two n several (omega arith)

-- all digits but the last three, and these
pub three_more : (n : ℕ) → 1000 ≤ n → n < 2 ^ 64 → decimal n ≡ decimal (n / 1000) ++ three_digits (n % 1000)
three_more n several fits =
    last_two n (omega arith) fits
    ∙ ap (λ l. l ++ decimal (n / 10 % 10) ++ decimal (n % 10))
    (last_digit (n / 100) (omega arith) (omega arith)
    ∙ ap (λ m. decimal m ++ decimal (n / 100 % 10)) (omega arith))
    ∙ three_parts (decimal (n / 1000)) (n / 100 % 10) (n / 10 % 10) (n % 10) (n % 1000 / 100) (n % 1000 / 10 % 10)
    (n % 1000 % 10) (omega arith) (omega arith) (omega arith)
