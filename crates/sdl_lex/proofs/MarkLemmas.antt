-- Blanks, marks, and bytes that begin nothing.
use Rattle.std.proofs.Common.{◌≡◌, ◌≢◌, ℕ, ◌<◌, true, false, ◌||◌, cond, ◌⊎◌, inl, inr, List, [], ◌∷◌, ◌++◌, length, get_or, sym, refl, ap, ◌∙◌, subst, ⊎_elim, arith}
use Rattle.std.specs.Char.{is_ascii_alphabetic, is_ascii_digit}
use Rattle.std.specs.Prelude.{Some, None, Ok, Err}
use Rattle.std.proofs.lemmas.Bool.{cases_Bool, both_ways, or_parts, not-true, false≢true}
use Rattle.sdl_lex.specs.declared.token.Kind.{Kind}
use Rattle.sdl_lex.specs.declared.token.Kind.TheVariants.{Word, Number, Text, Mark}
use Rattle.sdl_lex.specs.declared.piece.Fault.TheVariants.{BadByte}
use Rattle.sdl_lex.specs.Byte.{is_blank, is_quote, is_mark_byte}
use Rattle.sdl_lex.specs.Kind.{Is, is_mark}
use Rattle.sdl_lex.specs.Part.{Gap, Lexeme, BeginsComment}
use Rattle.sdl_lex.specs.Piece.{Found, is_other, mark_len}
use Rattle.sdl_lex.proofs.ByteLemmas.{class, class-mark_byte}
use Rattle.sdl_lex.proofs.KindLemmas.{class_of, Is-class, is_mark-first}

pub found_blank : (bytes : List ℕ) → 0 < length bytes → is_blank (get_or bytes 0 0) ≡ true → Found (Ok (record { kind = None; len = 1 })) bytes
found_blank [] some blank = absurd (omega arith)
found_blank (b ∷ bytes) some blank = (Gap (b ∷ []), bytes, refl, inl (b, refl, blank), refl, refl)

-- a byte of a mark begins no token but a mark
only_marks : (k : Kind) (b : ℕ) (bytes after : List ℕ) → is_mark_byte b ≡ true → Is k (b ∷ bytes) after → k ≡ Mark
only_marks Mark b bytes after mark is = refl
only_marks Word b bytes after mark is = let other : ◌≡◌ {A = ℕ} 4 1 = sym (class-mark_byte b mark) ∙ Is-class Word b bytes after is in absurd (omega arith)
only_marks (Number n) b bytes after mark is = let other : ◌≡◌ {A = ℕ} 4 2 = sym (class-mark_byte b mark) ∙ Is-class (Number n) b bytes after is in absurd (omega arith)
only_marks Text b bytes after mark is = let other : ◌≡◌ {A = ℕ} 4 3 = sym (class-mark_byte b mark) ∙ Is-class Text b bytes after is in absurd (omega arith)

pair_longest : (b c : ℕ) (after : List ℕ) → is_mark (b ∷ c ∷ []) ≡ true → (k : Kind) (more others : List ℕ) → more ≢ [] → after ≡ more ++ others → Is k (b ∷ c ∷ more) others → ⊥
pair_longest b c after pair k [] others some e is = some refl
pair_longest b c after pair k (d ∷ more) others some e is =
    false≢true (subst (λ m. Is m (b ∷ c ∷ d ∷ more) others) (only_marks k b (c ∷ d ∷ more) others (is_mark-first b (c ∷ []) pair) is) is)

-- with the next byte it is no mark
abbrev IsAlone : ℕ → List ℕ → Type 0
IsAlone b [] = Unit {0}
IsAlone b (c ∷ after) = is_mark (b ∷ c ∷ []) ≡ false

single_longest : (b : ℕ) (after : List ℕ) → is_mark_byte b ≡ true → IsAlone b after → (k : Kind) (more others : List ℕ) → more ≢ [] → after ≡ more ++ others → Is k (b ∷ more) others → ⊥
single_longest b after mark alone k [] others some e is = some refl
single_longest b after mark alone k (c ∷ []) others some e is =
    let pair : is_mark (b ∷ c ∷ []) ≡ true = subst (λ m. Is m (b ∷ c ∷ []) others) (only_marks k b (c ∷ []) others mark is) is in
    let none : is_mark (b ∷ c ∷ []) ≡ false = subst (IsAlone b) e alone in
    both_ways (is_mark (b ∷ c ∷ [])) none pair
single_longest b after mark alone k (c ∷ d ∷ more) others some e is =
    false≢true (subst (λ m. Is m (b ∷ c ∷ d ∷ more) others) (only_marks k b (c ∷ d ∷ more) others mark is) is)

pub found_mark : (bytes : List ℕ) (n : ℕ) → ¬ BeginsComment bytes → n ≡ mark_len bytes → n ≢ 0 → Found (Ok (record { kind = Some Mark; len = n })) bytes
found_mark [] n code is some = absurd (some is)
found_mark (b ∷ []) n code is some = go (cases_Bool (is_mark_byte b))
  where
    go : (is_mark_byte b ≡ true) ⊎ (is_mark_byte b ≡ false) → Found (Ok (record { kind = Some Mark; len = n })) (b ∷ [])
    go (inl mark) = (Lexeme Mark (b ∷ []), [], refl, (mark, code, single_longest b [] mark tt, tt), refl, is ∙ ap (λ t. cond t 1 0) mark)
    go (inr other) = absurd (some (is ∙ ap (λ t. cond t 1 0) other))
found_mark (b ∷ c ∷ bytes) n code is some = go (cases_Bool (is_mark (b ∷ c ∷ []))) (cases_Bool (is_mark_byte b))
  where
    go : (is_mark (b ∷ c ∷ []) ≡ true) ⊎ (is_mark (b ∷ c ∷ []) ≡ false) → (is_mark_byte b ≡ true) ⊎ (is_mark_byte b ≡ false) → Found (Ok (record { kind = Some Mark; len = n })) (b ∷ c ∷ bytes)
    go (inl pair) any = (Lexeme Mark (b ∷ c ∷ []), bytes, refl, (pair, code, pair_longest b c bytes pair, tt), refl, is ∙ ap (λ t. cond t 2 (cond (is_mark_byte b) 1 0)) pair)
    go (inr alone) (inl mark) = (
      Lexeme Mark (b ∷ []),
      c ∷ bytes,
      refl,
      (mark, code, single_longest b (c ∷ bytes) mark alone, tt),
      refl,
      is ∙ ap (λ t. cond t 2 (cond (is_mark_byte b) 1 0)) alone ∙ ap (λ t. cond t 1 0) mark,
    )
    go (inr alone) (inr other) = absurd (some (is ∙ ap (λ t. cond t 2 (cond (is_mark_byte b) 1 0)) alone ∙ ap (λ t. cond t 1 0) other))

some_mark : (b : ℕ) (bytes : List ℕ) → is_mark_byte b ≡ true → mark_len (b ∷ bytes) ≡ 0 → ⊥
some_mark b [] mark none = let one : ◌≡◌ {A = ℕ} 1 0 = ap (λ t. cond t 1 0) (sym mark) ∙ none in omega arith
some_mark b (c ∷ bytes) mark none = go (cases_Bool (is_mark (b ∷ c ∷ [])))
  where
    go : (is_mark (b ∷ c ∷ []) ≡ true) ⊎ (is_mark (b ∷ c ∷ []) ≡ false) → ⊥
    go (inl pair) = let two : ◌≡◌ {A = ℕ} 2 0 = ap (λ t. cond t 2 (cond (is_mark_byte b) 1 0)) (sym pair) ∙ none in omega arith
    go (inr alone) = let one : ◌≡◌ {A = ℕ} 1 0 = ap (λ t. cond t 1 0) (sym mark) ∙ ap (λ t. cond t 2 (cond (is_mark_byte b) 1 0)) (sym alone) ∙ none in omega arith

pub class_of-positive : (k : Kind) → 0 ≡ class_of k → ⊥
class_of-positive Word e = omega arith
class_of-positive (Number n) e = omega arith
class_of-positive Text e = omega arith
class_of-positive Mark e = omega arith

pub bad_byte : (bytes : List ℕ) → 0 < length bytes → is_other (get_or bytes 0 0) ≡ true → mark_len bytes ≡ 0 → Found (Err BadByte) bytes
bad_byte [] some other none = absurd (omega arith)
bad_byte (b ∷ bytes) some other none =
    let no_quote = or_parts (is_blank b || is_ascii_alphabetic b || is_ascii_digit b) (is_quote b) (not-true (is_blank b || is_ascii_alphabetic b || is_ascii_digit b || is_quote b) other) in
    let no_digit = or_parts (is_blank b || is_ascii_alphabetic b) (is_ascii_digit b) no_quote.0 in
    let no_letter = or_parts (is_blank b) (is_ascii_alphabetic b) no_digit.0 in
    let no_mark : is_mark_byte b ≡ false = ⊎_elim (λ (mark : is_mark_byte b ≡ true). absurd (some_mark b bytes mark none)) (λ (h : is_mark_byte b ≡ false). h) (cases_Bool (is_mark_byte b)) in
    let nothing : class b ≡ 0 =
    ap (λ t. cond t 1 (cond (is_ascii_digit b) 2 (cond (is_quote b) 3 (cond (is_mark_byte b) 4 0)))) no_letter.1
    ∙ ap (λ t. cond t 2 (cond (is_quote b) 3 (cond (is_mark_byte b) 4 0))) no_digit.1
    ∙ ap (λ t. cond t 3 (cond (is_mark_byte b) 4 0)) no_quote.1
    ∙ ap (λ t. cond t 4 0) no_mark in
    (no_letter.0, λ k more after is. class_of-positive k (sym nothing ∙ Is-class k b more after is))
