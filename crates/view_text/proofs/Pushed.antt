-- Texts that are appended one after the other.
use Rattle.std.proofs.Common.{◌≡◌, ℕ, List, ◌++◌, Result, Ok, Err, ◌∙◌, ap, append_assoc, if◌then◌else◌}
use Rattle.std.specs.Prelude.{OnOk, is_ok}

-- two of them are one
pub grown : {text text' : List ℕ} (start first second : List ℕ) → text ≡ start ++ first → text' ≡ text ++ second
    → text' ≡ start ++ (first ++ second)
grown start first second is more = more ∙ ap (λ l. l ++ second) is ∙ append_assoc start first second

-- the last of them, if there is memory for it
pub said : {T E : Type 0} {text : List ℕ} (r : Result T E) (text' start first second : List ℕ)
    → text ≡ start ++ first → OnOk r (text' ≡ text ++ second) → OnOk r (text' ≡ start ++ (first ++ second))
said (Ok x) text' start first second is more = grown start first second is more
said (Err e) text' start first second is more = tt

-- the same by `push_str`
pub pushed : {T E : Type 0} {text : List ℕ} (r : Result T E) (text' start first second : List ℕ)
    → text ≡ start ++ first → text' ≡ (if is_ok r then text ++ second else text)
    → OnOk r (text' ≡ start ++ (first ++ second))
pushed (Ok x) text' start first second is more = grown start first second is more
pushed (Err e) text' start first second is more = tt
