-- Tokens with a blank behind them.
use Rattle.std.proofs.Common.{◌≡◌, ◌≢◌, refl, sym, ap, ◌∙◌, subst, ℕ, ℤ, ◌≤◌, true, false, ◌&&◌, ⊎_elim, List, [], ◌∷◌, ◌++◌, length, codes, arith}
use Rattle.std.specs.Prelude.{pos, not, ◌==◌}
use Rattle.std.specs.Char.{is_ascii_digit}
use Rattle.std.specs.List.{list_all}
use Rattle.std.proofs.lemmas.Bool.{and_parts, or_cases, both_ways, not-true, false≢true, eqb-true}
use Rattle.sdl_lex.specs.declared.token.Kind.{Kind}
use Rattle.sdl_lex.specs.declared.token.Kind.TheVariants as kind
use Rattle.sdl_lex.specs.Byte.{is_among, is_blank, is_word_byte}
use Rattle.sdl_lex.specs.Kind.{IsWord, IsDigits, Is, is_mark}
use Rattle.sdl_lex.specs.Kind as lex
use Rattle.sdl_lex.specs.Part.{Lexeme, BeginsComment, IsPart}
use Rattle.sdl_lex.proofs.ByteLemmas.{class, each_among}
use Rattle.sdl_lex.proofs.KindLemmas.{Is-class}
use Rattle.sdl_lex.proofs.ListLemmas.{list_all-split}

-- ---- a blank ends each token

no_word_byte : (b : ℕ) → is_blank b ≡ true → is_word_byte b ≡ false
no_word_byte b h = not-true (is_word_byte b) (each_among (λ x. not (is_word_byte x)) b (32 ∷ 9 ∷ 13 ∷ 10 ∷ []) h refl)

no_digit : (b : ℕ) → is_blank b ≡ true → is_ascii_digit b ≡ false
no_digit b h = not-true (is_ascii_digit b) (each_among (λ x. not (is_ascii_digit x)) b (32 ∷ 9 ∷ 13 ∷ 10 ∷ []) h refl)

no_second : (b c : ℕ) → is_blank c ≡ true → is_mark (b ∷ c ∷ []) ≡ true → ⊥
no_second b c h pair =
    let no_equal : (c == 61) ≡ false = not-true (c == 61) (each_among (λ x. not (x == 61)) c (32 ∷ 9 ∷ 13 ∷ 10 ∷ []) h refl) in
    let no_greater : (c == 62) ≡ false = not-true (c == 62) (each_among (λ x. not (x == 62)) c (32 ∷ 9 ∷ 13 ∷ 10 ∷ []) h refl) in
    ⊎_elim
    (λ w. both_ways (c == 61) no_equal (and_parts (is_among b (codes ":/<>")) (c == 61) w).1)
    (λ w. both_ways (c == 62) no_greater (and_parts (b == 61) (c == 62) w).1)
    (or_cases (is_among b (codes ":/<>") && c == 61) (b == 61 && c == 62) pair)

goes_not_on : (k : Kind) (b : ℕ) (bytes : List ℕ) (c : ℕ) (more others : List ℕ) → class b ≢ 3 → is_blank c ≡ true →
    Is k (b ∷ (bytes ++ c ∷ more)) others → ⊥
goes_not_on kind.Word b bytes c more others no_text blank is =
    both_ways (is_word_byte c) (no_word_byte c blank)
    (and_parts (is_word_byte c) (list_all is_word_byte more) (list_all-split is_word_byte bytes (c ∷ more) is.1)).0
goes_not_on (kind.Number n) b bytes c more others no_text blank is =
    both_ways (is_ascii_digit c) (no_digit c blank)
    (and_parts (is_ascii_digit c) (list_all is_ascii_digit more) (list_all-split is_ascii_digit (b ∷ bytes) (c ∷ more) is.0)).0
goes_not_on kind.Text b bytes c more others no_text blank is = no_text (Is-class kind.Text b (bytes ++ c ∷ more) others is)
goes_not_on kind.Mark b [] c [] others no_text blank is = no_second b c blank is
goes_not_on kind.Mark b [] c (d ∷ more) others no_text blank is = false≢true is
goes_not_on kind.Mark b (x ∷ []) c more others no_text blank is = false≢true is
goes_not_on kind.Mark b (x ∷ y ∷ bytes) c more others no_text blank is = false≢true is

before_blank : (b : ℕ) (bytes : List ℕ) (gap : ℕ) (after : List ℕ) → class b ≢ 3 → is_blank gap ≡ true →
    (k : Kind) (more others : List ℕ) → more ≢ [] → gap ∷ after ≡ more ++ others → Is k (b ∷ (bytes ++ more)) others → ⊥
before_blank b bytes gap after no_text blank k [] others some e is = some refl
before_blank b bytes gap after no_text blank k (c ∷ more) others some e is =
    let same : gap ≡ c = cc in
    goes_not_on k b bytes c more others no_text (subst (λ x. is_blank x ≡ true) same blank) is

-- ---- no token begins a comment

no_slash : (b : ℕ) (bytes : List ℕ) → class b ≢ 4 → ¬ BeginsComment (b ∷ bytes)
no_slash b bytes other s =
    let whole : b ∷ bytes ≡ 47 ∷ 42 ∷ s.0 = s.1 in
    let slash : b ≡ 47 = cc in
    other (ap class slash)

no_star : (b : ℕ) (bytes : List ℕ) (gap : ℕ) (after : List ℕ) → is_blank gap ≡ true → is_mark (b ∷ bytes) ≡ true → ¬ BeginsComment (b ∷ (bytes ++ gap ∷ after))
no_star b [] gap after blank mark s =
    let whole : b ∷ gap ∷ after ≡ 47 ∷ 42 ∷ s.0 = s.1 in
    let star : gap ≡ 42 = cc in
    false≢true (ap is_blank (sym star) ∙ blank)
no_star b (c ∷ []) gap after blank mark s =
    let whole : b ∷ c ∷ gap ∷ after ≡ 47 ∷ 42 ∷ s.0 = s.1 in
    let star : c ≡ 42 = cc in
    ⊎_elim
    (λ w. let equal : c ≡ 61 = eqb-true c 61 (and_parts (is_among b (codes ":/<>")) (c == 61) w).1 in absurd (omega arith))
    (λ w. let greater : c ≡ 62 = eqb-true c 62 (and_parts (b == 61) (c == 62) w).1 in absurd (omega arith))
    (or_cases (is_among b (codes ":/<>") && c == 61) (b == 61 && c == 62) mark)
no_star b (c ∷ d ∷ bytes) gap after blank mark s = false≢true mark

-- ---- parts

other_class : (b m n : ℕ) → class b ≡ m → m ≢ n → class b ≢ n
other_class b m n is other e = other (sym is ∙ e)

pub word_part : (x : List ℕ) → IsWord x → length x ≤ 255 → (gap : ℕ) (after : List ℕ) → is_blank gap ≡ true → IsPart (Lexeme kind.Word x) (gap ∷ after)
word_part [] is len gap after blank = absurd is
word_part (b ∷ bytes) is len gap after blank =
    let one : class b ≡ 1 = Is-class kind.Word b bytes (gap ∷ after) is in
    (is, no_slash b (bytes ++ gap ∷ after) (other_class b 1 4 one (omega arith)), before_blank b bytes gap after (other_class b 1 3 one (omega arith)) blank, len)

pub sign_part : (x : List ℕ) → is_mark x ≡ true → (gap : ℕ) (after : List ℕ) → is_blank gap ≡ true → IsPart (Lexeme kind.Mark x) (gap ∷ after)
sign_part [] is gap after blank = absurd (false≢true is)
sign_part (b ∷ bytes) is gap after blank =
    let four : class b ≡ 4 = Is-class kind.Mark b bytes (gap ∷ after) is in
    (is, no_star b bytes gap after blank is, before_blank b bytes gap after (other_class b 4 3 four (omega arith)) blank, tt)

pub number_part : (x : List ℕ) (n : ℤ) → IsDigits x → n ≡ pos (lex.decimal x) → lex.decimal x ≤ 9223372036854775807 →
    (gap : ℕ) (after : List ℕ) → is_blank gap ≡ true → IsPart (Lexeme (kind.Number n) x) (gap ∷ after)
number_part [] n is value small gap after blank = absurd is
number_part (b ∷ bytes) n is value small gap after blank =
    let two : class b ≡ 2 = Is-class (kind.Number n) b bytes (gap ∷ after) (is, value) in
    ((is, value), no_slash b (bytes ++ gap ∷ after) (other_class b 2 4 two (omega arith)), before_blank b bytes gap after (other_class b 2 3 two (omega arith)) blank, small)
