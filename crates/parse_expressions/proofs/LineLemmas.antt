-- No line ends in a word, a number or a mark, so the place after one is in the same line.
use Rattle.std.proofs.Common.{◌≡◌, ℕ, suc, ◌+◌, ◌-◌, ◌≤◌, Bool, true, false, not, ◌&&◌, ◌==◌, cond, List, [], ◌∷◌, ◌++◌, length, take, drop, slice_range, reverse, refl, sym, ap, ◌∙◌, ⊎_elim, true≢false, arith, append-nil, append_assoc, length-drop, length-take-le, take-add}
use Rattle.std.specs.Char.{is_ascii_alphabetic, is_ascii_digit}
use Rattle.std.specs.List.{count_by, list_all, prefix_len}
use Rattle.std.specs.Prelude.{codes}
use Rattle.std.proofs.lemmas.Bool.{and_parts, eqb-true, false≢true, not-true, or_cases}
use Rattle.std.proofs.lemmas.Bool.Decides.{nat_tests}
use Rattle.std.proofs.lemmas.List.{reverse-append}
use Rattle.std.proofs.lemmas.List.Sums.{sum_by-append, suffix_len-le-length}
use Rattle.sdl_lex.specs.declared.place.Place.{Place}
use Rattle.sdl_lex.specs.declared.token.Kind.{Kind}
use Rattle.sdl_lex.specs.declared.token.Kind.TheVariants as kind
use Rattle.sdl_lex.specs.declared.token.Token.{Token}
use Rattle.sdl_lex.specs.Byte.{is_among, is_word_byte}
use Rattle.sdl_lex.specs.Kind.{Is, is_mark}
use Rattle.sdl_lex.specs.Place.{is_line_end, last_line_len, place_after}
use Rattle.sdl_lex.specs.Token.{InOrder, IsSlice}
use Rattle.sdl_lex.proofs.ByteLemmas.{each_among}
use Rattle.parse_expressions.specs.Searched.{along, behind, behind_by, may_break}
use Rattle.parse_expressions.proofs.WordLemmas.{InOrder-earlier}

-- the byte ends no line
abbrev in_line : ℕ → Bool
in_line b = not (is_line_end b)

-- ---- what tokens are made of

word_in_line : (b : ℕ) → is_word_byte b ≡ true → in_line b ≡ true
word_in_line b h = grind (arith, nat_tests)

letter_in_line : (b : ℕ) → is_ascii_alphabetic b ≡ true → in_line b ≡ true
letter_in_line b h = grind (arith, nat_tests)

digit_in_line : (b : ℕ) → is_ascii_digit b ≡ true → in_line b ≡ true
digit_in_line b h = grind (arith, nat_tests)

each_in_line : (p : ℕ → Bool) → ((b : ℕ) → p b ≡ true → in_line b ≡ true) → (bytes : List ℕ) → list_all p bytes ≡ true
    → list_all in_line bytes ≡ true
each_in_line p stays [] all = refl
each_in_line p stays (b ∷ bytes) all =
    let parts = and_parts (p b) (list_all p bytes) all in
    let rest = each_in_line p stays bytes parts.1 in
    λ i. stays b parts.0 i && rest i

two_in_line : (b c : ℕ) → in_line b ≡ true → in_line c ≡ true → list_all in_line (b ∷ c ∷ []) ≡ true
two_in_line b c first second = λ i. first i && (second i && true)

mark_in_line : (bytes : List ℕ) → is_mark bytes ≡ true → list_all in_line bytes ≡ true
mark_in_line [] e = refl
mark_in_line (b ∷ []) e = let first = each_among in_line b (codes "(),;:=<>+-*/") e refl in λ i. first i && true
mark_in_line (b ∷ c ∷ []) e =
    ⊎_elim
    (λ h. let both = and_parts (is_among b (codes ":/<>")) (c == 61) h in
    two_in_line b c (each_among in_line b (codes ":/<>") both.0 refl) (ap in_line (eqb-true c 61 both.1)))
    (λ h. let both = and_parts (b == 61) (c == 62) h in
    two_in_line b c (ap in_line (eqb-true b 61 both.0)) (ap in_line (eqb-true c 62 both.1)))
    (or_cases (is_among b (codes ":/<>") && c == 61) (b == 61 && c == 62) e)
mark_in_line (b ∷ c ∷ d ∷ bytes) e = absurd (false≢true e)

token_in_line : (k : Kind) (bytes after : List ℕ) → Is k bytes after → may_break k ≡ false → list_all in_line bytes ≡ true
token_in_line kind.Word [] after is unbroken = refl
token_in_line kind.Word (b ∷ bytes) after is unbroken =
    let first = letter_in_line b is.0 in
    let rest = each_in_line is_word_byte word_in_line bytes is.1 in
    λ i. first i && rest i
token_in_line (kind.Number n) [] after is unbroken = refl
token_in_line (kind.Number n) (b ∷ bytes) after is unbroken = each_in_line is_ascii_digit digit_in_line (b ∷ bytes) is.0
token_in_line kind.Text bytes after is unbroken = absurd (true≢false unbroken)
token_in_line kind.Mark bytes after is unbroken = mark_in_line bytes is

-- ---- the place after bytes in which no line ends

along_none : (p : Place) → p ≡ along p 0
along_none p = let same : p.column ≡ p.column + 0 = omega arith in λ i. record { line = p.line; column = same i }

along_more : (p : Place) (n : ℕ) → along (along p 1) n ≡ along p (suc n)
along_more p n =
    let same : p.column + 1 + n ≡ p.column + suc n = omega arith in λ i. record { line = p.line; column = same i }

one_on : (before : List ℕ) (b : ℕ) → in_line b ≡ true → place_after (before ++ b ∷ []) ≡ along (place_after before) 1
one_on before b stays =
    let none : count_by is_line_end (b ∷ []) ≡ 0 = ap (λ t. 0 + cond t 1 0) (not-true (is_line_end b) stays) in
    let sum = sum_by-append (λ x. cond (is_line_end x) 1 0) before (b ∷ []) in
    let lines : count_by is_line_end (before ++ b ∷ []) + 1 ≡ count_by is_line_end before + 1 = omega (arith, sum, none) in
    let bytes : last_line_len (before ++ b ∷ []) ≡ 1 + last_line_len before =
    ap (prefix_len in_line) (reverse-append before (b ∷ []))
    ∙ ap (λ t. cond t (1 + prefix_len in_line (reverse before)) 0) stays in
    let columns : last_line_len (before ++ b ∷ []) + 1 ≡ last_line_len before + 1 + 1 = omega (arith, bytes) in
    λ i. record { line = lines i; column = columns i }

further : (before bytes : List ℕ) → list_all in_line bytes ≡ true
    → place_after (before ++ bytes) ≡ along (place_after before) (length bytes)
further before [] all = ap place_after (append-nil before) ∙ along_none (place_after before)
further before (b ∷ bytes) all =
    let parts = and_parts (in_line b) (list_all in_line bytes) all in
    ap place_after (sym (append_assoc before (b ∷ []) bytes))
    ∙ further (before ++ b ∷ []) bytes parts.1
    ∙ ap (λ (p : Place). along p (length bytes)) (one_on before b parts.0)
    ∙ along_more (place_after before) (length bytes)

-- ---- the place after a token, and where the others stand

length_of : (source : List ℕ) (from to : ℕ) → from ≤ to → to ≤ length source → length (slice_range source from to) ≡ to - from
length_of source from to forward within =
    let left = length-drop from source in length-take-le (to - from) (drop from source) (omega (arith, left))

cut_at : (source : List ℕ) (from to : ℕ) → from ≤ to → take to source ≡ take from source ++ slice_range source from to
cut_at source from to forward =
    let whole : to ≡ from + (to - from) = omega arith in ap (λ n. take n source) whole ∙ take-add from (to - from) source

module _ (source : List ℕ) (t : Token) (p : Place) (ordered : t.start ≤ t.end) (within : t.end ≤ length source) (is : IsSlice source t)
    (placed : p ≡ place_after (take t.start source)) where
  abbrev bytes : List ℕ
  bytes = slice_range source t.start t.end

  behind_from : (b : Bool) → may_break t.kind ≡ b → (behind_by b t p).place ≡ place_after (take (behind_by b t p).offset source)
  behind_from true breaks = placed
  behind_from false unbroken =
      ap (λ (q : Place). along q (t.end - t.start)) placed
      ∙ ap (along (place_after (take t.start source))) (sym (length_of source t.start t.end ordered within))
      ∙ sym (further (take t.start source) bytes (token_in_line t.kind bytes (drop t.end source) is unbroken))
      ∙ sym (ap place_after (cut_at source t.start t.end ordered))

  pub behind_placed : (behind t p).place ≡ place_after (take (behind t p).offset source)
  behind_placed = behind_from (may_break t.kind) refl

pub behind_order : (t : Token) (p : Place) (ts : List Token) (to : ℕ) → t.start ≤ t.end → InOrder t.end ts to
    → InOrder (behind t p).offset ts to
behind_order t p ts to ordered h = from (may_break t.kind)
  where
    from : (b : Bool) → InOrder (behind_by b t p).offset ts to
    from true = InOrder-earlier t.start t.end ts to ordered h
    from false = h

-- a column is no greater than there are bytes before it, and one
pub column_fits : (source : List ℕ) (n : ℕ) → n ≤ length source → (place_after (take n source)).column ≤ n + 1
column_fits source n within =
    let some = suffix_len-le-length in_line (take n source) in
    let len = length-take-le n source within in
    omega (arith, some, len)
