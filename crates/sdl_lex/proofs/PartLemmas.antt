-- A text is parts in one way.
use Rattle.std.proofs.Common.{◌≡◌, ℕ, suc, ◌+◌, ◌<◌, ◌≤◌, ◌⊎◌, inl, inr, List, [], ◌∷◌, ◌++◌, length, sym, refl, ap, ◌∙◌, subst, ⊎_elim, arith, append_assoc, length-append}
use Rattle.std.specs.Prelude.{codes}
use Rattle.std.proofs.lemmas.Bool.{false≢true}
use Rattle.std.proofs.lemmas.List.{append-nil}
use Rattle.sdl_lex.specs.declared.token.Kind.{Kind}
use Rattle.sdl_lex.specs.declared.token.Token.{Token}
use Rattle.sdl_lex.specs.Byte.{is_blank}
use Rattle.sdl_lex.specs.Kind.{Is, IsLongest}
use Rattle.sdl_lex.specs.Part.{Part, Gap, Lexeme, bytes_of, IsBlank, IsComment, BeginsComment, IsPart, joined, AreParts, tokens_of, Lexes}
use Rattle.sdl_lex.specs.Token.{InOrder}
use Rattle.sdl_lex.proofs.ByteLemmas.{class, class-blank}
use Rattle.sdl_lex.proofs.KindLemmas.{Is-class, Is-nil, one_kind}
use Rattle.sdl_lex.proofs.ListLemmas.{GoesOn, two_cuts}
use Rattle.sdl_lex.proofs.MarkLemmas.{class_of-positive}

-- two cuts that agree
abbrev pub Same : List ℕ → List ℕ → List ℕ → List ℕ → Type 0
Same f a g b = (f ≡ g) × (a ≡ b)

no_more : (f a g b : List ℕ) → (r : GoesOn f a g b) → r.0 ≡ [] → Same f a g b
no_more f a g b r none = (sym (r.1 ∙ ap (λ l. f ++ l) none ∙ append-nil f), r.2 ∙ ap (λ l. l ++ b) none)

same_back : (f a g b : List ℕ) → Same g b f a → Same f a g b
same_back f a g b s = (sym s.0, sym s.1)

-- ---- blanks and comments

one_comment : (f a g b : List ℕ) → IsComment f → IsComment g → f ++ a ≡ g ++ b → Same f a g b
one_comment f a g b x y e =
    let whole : 47 ∷ 42 ∷ ((x.0 ++ codes "*/") ++ a) ≡ 47 ∷ 42 ∷ ((y.0 ++ codes "*/") ++ b) = ap (λ l. l ++ a) (sym x.1) ∙ e ∙ ap (λ l. l ++ b) y.1 in
    let s : Same (x.0 ++ codes "*/") a (y.0 ++ codes "*/") b =
    ⊎_elim
    (λ (r : GoesOn (x.0 ++ codes "*/") a (y.0 ++ codes "*/") b). no_more (x.0 ++ codes "*/") a (y.0 ++ codes "*/") b r (y.2 x.0 r.0 (r.1 ∙ append_assoc x.0 (codes "*/") r.0)))
    (λ (r : GoesOn (y.0 ++ codes "*/") b (x.0 ++ codes "*/") a). same_back (x.0 ++ codes "*/") a (y.0 ++ codes "*/") b (no_more (y.0 ++ codes "*/") b (x.0 ++ codes "*/") a r (x.2 y.0 r.0 (r.1 ∙ append_assoc y.0 (codes "*/") r.0))))
    (two_cuts (x.0 ++ codes "*/") a (y.0 ++ codes "*/") b (cc)) in
    (x.1 ∙ ap (λ l. codes "/*" ++ l) s.0 ∙ sym y.1, s.1)

no_blank_comment : (f a g b : List ℕ) → IsBlank f → IsComment g → f ++ a ≡ g ++ b → ⊥
no_blank_comment f a g b x y e =
    let whole : x.0 ∷ a ≡ 47 ∷ 42 ∷ ((y.0 ++ codes "*/") ++ b) = ap (λ l. l ++ a) (sym x.1) ∙ e ∙ ap (λ l. l ++ b) y.1 in
    let slash : x.0 ≡ 47 = cc in
    false≢true (ap is_blank (sym slash) ∙ x.2)

one_gap : (f a g b : List ℕ) → IsBlank f ⊎ IsComment f → IsBlank g ⊎ IsComment g → f ++ a ≡ g ++ b → Same f a g b
one_gap f a g b (inl x) (inl y) e =
    let whole : x.0 ∷ a ≡ y.0 ∷ b = ap (λ l. l ++ a) (sym x.1) ∙ e ∙ ap (λ l. l ++ b) y.1 in
    let same : x.0 ≡ y.0 = cc in
    let rest : a ≡ b = cc in
    (x.1 ∙ (λ i. same i ∷ []) ∙ sym y.1, rest)
one_gap f a g b (inl x) (inr y) e = absurd (no_blank_comment f a g b x y e)
one_gap f a g b (inr x) (inl y) e = absurd (no_blank_comment g b f a y x (sym e))
one_gap f a g b (inr x) (inr y) e = one_comment f a g b x y e

-- ---- tokens

pub no_gap_token : (f a g b : List ℕ) (k : Kind) → IsBlank f ⊎ IsComment f → Is k g b → ¬ BeginsComment (g ++ b) → f ++ a ≡ g ++ b → ⊥
no_gap_token f a [] b k x is code e = Is-nil k b is
no_gap_token f a (c ∷ g) b k (inl x) is code e =
    let whole : x.0 ∷ a ≡ c ∷ (g ++ b) = ap (λ l. l ++ a) (sym x.1) ∙ e in
    let same : x.0 ≡ c = cc in
    class_of-positive k (sym (class-blank x.0 x.2) ∙ ap class same ∙ Is-class k c g b is)
no_gap_token f a (c ∷ g) b k (inr x) is code e = code ((x.0 ++ codes "*/") ++ a, sym e ∙ ap (λ l. l ++ a) x.1)

goes_not_on : (f a g b : List ℕ) (m : Kind) → IsLongest f a → Is m g b → (r : GoesOn f a g b) → r.0 ≡ []
goes_not_on f a g b m longest is ([], long, rest) = refl
goes_not_on f a g b m longest is (c ∷ more, long, rest) =
    absurd (longest m (c ∷ more) b (λ (nil : c ∷ more ≡ []). cc) rest (subst (λ l. Is m l b) long is))

pub one_token : (f a g b : List ℕ) (k m : Kind) → Is k f a → IsLongest f a → Is m g b → IsLongest g b → f ++ a ≡ g ++ b → Same f a g b
one_token f a g b k m is long is' long' e =
    ⊎_elim
    (λ (r : GoesOn f a g b). no_more f a g b r (goes_not_on f a g b m long is' r))
    (λ (r : GoesOn g b f a). same_back f a g b (no_more g b f a r (goes_not_on g b f a k long' is r)))
    (two_cuts f a g b e)

-- one part stands at the front of a text
pub one_part : (p q : Part) (a b : List ℕ) → IsPart p a → IsPart q b → bytes_of p ++ a ≡ bytes_of q ++ b → (p ≡ q) × (a ≡ b)
one_part (Gap f) (Gap g) a b x y e = let s = one_gap f a g b x y e in (ap Gap s.0, s.1)
one_part (Gap f) (Lexeme m g) a b x y e = absurd (no_gap_token f a g b m x y.0 y.1 e)
one_part (Lexeme k f) (Gap g) a b x y e = absurd (no_gap_token g b f a k y x.0 x.1 (sym e))
one_part (Lexeme k f) (Lexeme m g) a b x y e =
    let s = one_token f a g b k m x.0 x.2 y.0 y.2 e in
    let kinds = one_kind k m g a b (subst (λ l. Is k l a) s.0 x.0) y.0 in
    ((λ i. Lexeme (kinds i) (s.0 i)), s.1)

pub part_some : (p : Part) (after : List ℕ) → IsPart p after → 0 < length (bytes_of p)
part_some (Gap f) after (inl x) = let len = ap length x.1 in omega arith
part_some (Gap f) after (inr x) = let len : length f ≡ suc (suc (length (x.0 ++ codes "*/"))) = ap length x.1 in omega arith
part_some (Lexeme k []) after x = absurd (Is-nil k after x.0)
part_some (Lexeme k (b ∷ f)) after x = omega arith

-- no part stands at the front
abbrev pub IsStuck : List ℕ → Type 0
IsStuck rest = (p : Part) (after : List ℕ) → rest ≡ bytes_of p ++ after → IsPart p after → ⊥

pub IsStuck-nil : IsStuck []
IsStuck-nil p after e part = let some = part_some p after part in let len = ap length e ∙ length-append (bytes_of p) after in omega arith

-- a text goes on in parts in one way, until none stands there
pub one_way : (parts others : List Part) (rest end : List ℕ) → AreParts parts rest → AreParts others end → joined parts ++ rest ≡ joined others ++ end → IsStuck rest → IsStuck end → (parts ≡ others) × (rest ≡ end)
one_way [] [] rest end x y e stuck stop = (refl, e)
one_way [] (q ∷ others) rest end x y e stuck stop = absurd (stuck q (joined others ++ end) (e ∙ append_assoc (bytes_of q) (joined others) end) y.0)
one_way (p ∷ parts) [] rest end x y e stuck stop = absurd (stop p (joined parts ++ rest) (sym e ∙ append_assoc (bytes_of p) (joined parts) rest) x.0)
one_way (p ∷ parts) (q ∷ others) rest end x y e stuck stop =
    let s = one_part p q (joined parts ++ rest) (joined others ++ end) x.0 y.0 (sym (append_assoc (bytes_of p) (joined parts) rest) ∙ e ∙ append_assoc (bytes_of q) (joined others) end) in
    let more = one_way parts others rest end x.1 y.1 s.1 stuck stop in
    ((λ i. s.0 i ∷ more.0 i), more.1)

pub one_list : (text : List ℕ) (tokens others : List Token) → Lexes text tokens → Lexes text others → tokens ≡ others
one_list text tokens others x y =
    let way = one_way x.0 y.0 [] [] x.2 y.2 (append-nil (joined x.0) ∙ sym x.1 ∙ y.1 ∙ sym (append-nil (joined y.0))) IsStuck-nil IsStuck-nil in
    x.3 ∙ ap (tokens_of 0) way.0 ∙ sym y.3

-- ---- one part more

pub joined-push : (parts : List Part) (p : Part) (rest : List ℕ) → joined (parts ++ p ∷ []) ++ rest ≡ joined parts ++ (bytes_of p ++ rest)
joined-push [] p rest = ap (λ l. l ++ rest) (append-nil (bytes_of p))
joined-push (q ∷ parts) p rest =
    append_assoc (bytes_of q) (joined (parts ++ p ∷ [])) rest ∙ ap (λ l. bytes_of q ++ l) (joined-push parts p rest) ∙ sym (append_assoc (bytes_of q) (joined parts) (bytes_of p ++ rest))

pub AreParts-push : (parts : List Part) (p : Part) (rest : List ℕ) → AreParts parts (bytes_of p ++ rest) → IsPart p rest → AreParts (parts ++ p ∷ []) rest
AreParts-push [] p rest x part = (part, tt)
AreParts-push (q ∷ parts) p rest x part = (subst (IsPart q) (sym (joined-push parts p rest)) x.0, AreParts-push parts p rest x.1 part)

pub tokens_of-push : (at : ℕ) (parts : List Part) (p : Part) → tokens_of at (parts ++ p ∷ []) ≡ tokens_of at parts ++ tokens_of (at + length (joined parts)) (p ∷ [])
tokens_of-push at [] p = let here : at ≡ at + 0 = omega arith in ap (λ n. tokens_of n (p ∷ [])) here
tokens_of-push at (Gap f ∷ parts) p =
    let on : at + length f + length (joined parts) ≡ at + length (f ++ joined parts) = omega (arith, length-append f (joined parts)) in
    tokens_of-push (at + length f) parts p ∙ ap (λ n. tokens_of (at + length f) parts ++ tokens_of n (p ∷ [])) on
tokens_of-push at (Lexeme k f ∷ parts) p =
    let on : at + length f + length (joined parts) ≡ at + length (f ++ joined parts) = omega (arith, length-append f (joined parts)) in
    ap (λ l. record { kind = k; start = at; end = at + length f } ∷ l) (tokens_of-push (at + length f) parts p ∙ ap (λ n. tokens_of (at + length f) parts ++ tokens_of n (p ∷ [])) on)

pub InOrder-tokens : (from at : ℕ) (parts : List Part) (rest : List ℕ) → from ≤ at → AreParts parts rest → InOrder from (tokens_of at parts) (at + length (joined parts))
InOrder-tokens from at [] rest le x = omega arith
InOrder-tokens from at (Gap f ∷ parts) rest le x =
    let on : at + length f + length (joined parts) ≡ at + length (f ++ joined parts) = omega (arith, length-append f (joined parts)) in
    subst (InOrder from (tokens_of (at + length f) parts)) on (InOrder-tokens from (at + length f) parts rest (omega arith) x.1)
InOrder-tokens from at (Lexeme k f ∷ parts) rest le x =
    let on : at + length f + length (joined parts) ≡ at + length (f ++ joined parts) = omega (arith, length-append f (joined parts)) in
    let some = part_some (Lexeme k f) (joined parts ++ rest) x.0 in
    (le, omega arith, subst (InOrder (at + length f) (tokens_of (at + length f) parts)) on (InOrder-tokens (at + length f) (at + length f) parts rest (omega arith) x.1))
