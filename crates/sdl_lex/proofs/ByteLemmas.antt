-- Which byte begins a token of which kind.
use Rattle.std.proofs.Common.{◌≡◌, ℕ, Bool, true, cond, eqb, List, [], ◌∷◌, refl, ap, ◌∙◌, ⊎_elim, arith}
use Rattle.std.specs.Char.{is_ascii_alphabetic, is_ascii_digit}
use Rattle.std.specs.List.{list_all}
use Rattle.std.specs.Prelude.{codes}
use Rattle.std.proofs.lemmas.Bool.{and_parts, or_cases, eqb-true, false≢true}
use Rattle.std.proofs.lemmas.Bool.Decides.{nat_tests}
use Rattle.sdl_lex.specs.Byte.{is_among, is_blank, is_quote, is_mark_byte}

-- words 1, numbers 2, character strings 3, marks 4
abbrev pub class : ℕ → ℕ
class b = cond (is_ascii_alphabetic b) 1 (cond (is_ascii_digit b) 2 (cond (is_quote b) 3 (cond (is_mark_byte b) 4 0)))

-- what is so of each byte of a list is so of one among them
pub each_among : (p : ℕ → Bool) (b : ℕ) (bytes : List ℕ) → is_among b bytes ≡ true → list_all p bytes ≡ true → p b ≡ true
each_among p b [] is all = absurd (false≢true is)
each_among p b (c ∷ bytes) is all =
    let parts = and_parts (p c) (list_all p bytes) all in
    ⊎_elim (λ same. ap p (eqb-true b c same) ∙ parts.0) (λ later. each_among p b bytes later parts.1) (or_cases (eqb b c) (is_among b bytes) is)

pub class-digit : (b : ℕ) → is_ascii_digit b ≡ true → class b ≡ 2
class-digit b h = grind (arith, nat_tests)

pub class-mark_byte : (b : ℕ) → is_mark_byte b ≡ true → class b ≡ 4
class-mark_byte b h = eqb-true (class b) 4 (each_among (λ x. eqb (class x) 4) b (codes "(),;:=<>+-*/") h refl)

pub class-blank : (b : ℕ) → is_blank b ≡ true → class b ≡ 0
class-blank b h = eqb-true (class b) 0 (each_among (λ x. eqb (class x) 0) b (32 ∷ 9 ∷ 13 ∷ 10 ∷ []) h refl)
