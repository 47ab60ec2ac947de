-- What tokens of each kind begin with.
use Rattle.std.proofs.Common.{◌≡◌, ℕ, true, ◌&&◌, eqb, List, [], ◌∷◌, sym, refl, ap, ◌∙◌, ⊎_elim}
use Rattle.std.specs.Char.{is_ascii_digit}
use Rattle.std.specs.List.{list_all}
use Rattle.std.specs.Prelude.{codes}
use Rattle.std.proofs.lemmas.Bool.{and_parts, or_cases, eqb-true, false≢true}
use Rattle.sdl_lex.specs.declared.token.Kind.{Kind}
use Rattle.sdl_lex.specs.declared.token.Kind.TheVariants.{Word, Number, Text, Mark}
use Rattle.sdl_lex.specs.Byte.{is_among, is_mark_byte}
use Rattle.sdl_lex.specs.Kind.{Is, is_mark}
use Rattle.sdl_lex.proofs.ByteLemmas.{class, each_among, class-digit, class-mark_byte}

abbrev pub class_of : Kind → ℕ
class_of Word = 1
class_of (Number n) = 2
class_of Text = 3
class_of Mark = 4

pub is_mark-first : (b : ℕ) (bytes : List ℕ) → is_mark (b ∷ bytes) ≡ true → is_mark_byte b ≡ true
is_mark-first b [] h = h
is_mark-first b (c ∷ []) h =
    ⊎_elim
    (λ w. each_among is_mark_byte b (codes ":/<>") (and_parts (is_among b (codes ":/<>")) (eqb c 61) w).0 refl)
    (λ w. ap is_mark_byte (eqb-true b 61 (and_parts (eqb b 61) (eqb c 62) w).0))
    (or_cases (is_among b (codes ":/<>") && eqb c 61) (eqb b 61 && eqb c 62) h)
is_mark-first b (c ∷ d ∷ bytes) h = absurd (false≢true h)

pub Is-class : (k : Kind) (b : ℕ) (bytes after : List ℕ) → Is k (b ∷ bytes) after → class b ≡ class_of k
Is-class Word b bytes after h = rw h.0 refl
Is-class (Number n) b bytes after h = class-digit b (and_parts (is_ascii_digit b) (list_all is_ascii_digit bytes) h.0).0
Is-class Text b bytes after h = let quote : b ≡ 39 = cc (h.0.1) in ap class quote
Is-class Mark b bytes after h = class-mark_byte b (is_mark-first b bytes h)

pub Is-nil : (k : Kind) (after : List ℕ) → Is k [] after → ⊥
Is-nil Word after h = h
Is-nil (Number n) after h = h.0
Is-nil Text after h = cc (h.0.1)
Is-nil Mark after h = false≢true h

-- the bytes of a token fix its kind
pub one_kind : (k m : Kind) (bytes after others : List ℕ) → Is k bytes after → Is m bytes others → k ≡ m
one_kind k m [] after others h g = absurd (Is-nil k after h)
one_kind k m (b ∷ bytes) after others h g = same k m (sym (Is-class k b bytes after h) ∙ Is-class m b bytes others g) h g
  where
    same : (k m : Kind) → class_of k ≡ class_of m → Is k (b ∷ bytes) after → Is m (b ∷ bytes) others → k ≡ m
    same Word Word e h g = refl
    same Word (Number n) e h g = cc
    same Word Text e h g = cc
    same Word Mark e h g = cc
    same (Number n) Word e h g = cc
    same (Number n) (Number o) e h g = ap Number (h.1 ∙ sym g.1)
    same (Number n) Text e h g = cc
    same (Number n) Mark e h g = cc
    same Text Word e h g = cc
    same Text (Number n) e h g = cc
    same Text Text e h g = refl
    same Text Mark e h g = cc
    same Mark Word e h g = cc
    same Mark (Number n) e h g = cc
    same Mark Text e h g = cc
    same Mark Mark e h g = refl
