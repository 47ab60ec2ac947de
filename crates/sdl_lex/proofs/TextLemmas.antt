-- Character strings: where they end.
use Rattle.std.proofs.Common.{◌≡◌, ◌≢◌, ℕ, ◌+◌, true, false, cond, ◌⊎◌, inl, inr, Some, None, List, [], ◌∷◌, ◌++◌, length, get_or, drop, sym, refl, ap, ◌∙◌, subst, ⊎_elim, arith, append_assoc, length-append}
use Rattle.std.specs.Prelude.{codes, Ok, Err}
use Rattle.std.proofs.lemmas.Bool.{cases_Bool, both_ways, eqb-true, false≢true, false_from_ne_true}
use Rattle.std.proofs.lemmas.List.{nil_from_length}
use Rattle.sdl_lex.specs.declared.token.Kind.{Kind}
use Rattle.sdl_lex.specs.declared.token.Kind.TheVariants.{Word, Number, Text, Mark}
use Rattle.sdl_lex.specs.declared.piece.Fault.TheVariants.{OpenString}
use Rattle.sdl_lex.specs.Byte.{is_quote}
use Rattle.sdl_lex.specs.Kind.{Is, doubled, BeginsQuoted}
use Rattle.sdl_lex.specs.Part.{Lexeme}
use Rattle.sdl_lex.specs.Piece.{Found, after_text}
use Rattle.sdl_lex.proofs.KindLemmas.{Is-class}
use Rattle.sdl_lex.proofs.RunLemmas.{no_comment}

-- the bytes up to `after` are those of a string, and its closing quote
abbrev Closed : List ℕ → List ℕ → Type 0
Closed body after = (inner : List ℕ) × (body ≡ doubled inner ++ (39 ∷ after)) × ¬ BeginsQuoted after

after_text-other : (b : ℕ) (bytes : List ℕ) → is_quote b ≡ false → after_text (b ∷ bytes) ≡ after_text bytes
after_text-other b [] h = rw h refl
after_text-other b (c ∷ bytes) h = rw h refl

after_text-single : (after : List ℕ) → ¬ BeginsQuoted after → after_text (39 ∷ after) ≡ Some after
after_text-single [] h = refl
after_text-single (c ∷ after) h = rw (false_from_ne_true (is_quote c) h) refl

-- a string that is closed there is found to be
pub after_text-closed : (inner after : List ℕ) → ¬ BeginsQuoted after → after_text (doubled inner ++ (39 ∷ after)) ≡ Some after
after_text-closed [] after h = after_text-single after h
after_text-closed (b ∷ inner) after h = go (after_text-closed inner after h) (cases_Bool (is_quote b))
  where
    go : after_text (doubled inner ++ (39 ∷ after)) ≡ Some after → (is_quote b ≡ true) ⊎ (is_quote b ≡ false) → after_text (doubled (b ∷ inner) ++ (39 ∷ after)) ≡ Some after
    go rest (inl pair) = rw (pair, pair) rest
    go rest (inr other) = rw other (after_text-other b (doubled inner ++ (39 ∷ after)) other ∙ rest)

closed_other : (b : ℕ) (body after : List ℕ) → is_quote b ≡ false → Closed body after → Closed (b ∷ body) after
closed_other b body after other r = (b ∷ r.0, rw other (ap (λ l. b ∷ l) r.1), r.2)

closed_pair : (b c : ℕ) (body after : List ℕ) → is_quote b ≡ true → is_quote c ≡ true → Closed body after → Closed (b ∷ c ∷ body) after
closed_pair b c body after first second r =
    let here : b ≡ 39 = eqb-true b 39 first in
    let next : c ≡ 39 = eqb-true c 39 second in
    (39 ∷ r.0, (λ i. here i ∷ (next i ∷ r.1 i)), r.2)

-- what is found is closed there
pub closed_from : (body after : List ℕ) → after_text body ≡ Some after → Closed body after
closed_from [] after e = cc
closed_from (b ∷ []) after e =
    ⊎_elim
    (λ quote.
    let here : b ≡ 39 = eqb-true b 39 quote in
    let rest : Some [] ≡ Some after = ap (λ t. cond t (Some []) None) (sym quote) ∙ e in
    let nil : [] ≡ after = cc in
    ([], (λ i. here i ∷ nil i), subst (λ l. ¬ BeginsQuoted l) nil (λ h. h)))
    (λ other. let none : None ≡ Some after = ap (λ t. cond t (Some []) None) (sym other) ∙ e in cc)
    (cases_Bool (is_quote b))
closed_from (b ∷ c ∷ bytes) after e =
    ⊎_elim
    (λ quote.
    let inside : cond (is_quote c) (after_text bytes) (Some (c ∷ bytes)) ≡ Some after = ap (λ t. cond t (cond (is_quote c) (after_text bytes) (Some (c ∷ bytes))) (after_text (c ∷ bytes))) (sym quote) ∙ e in
    ⊎_elim
    (λ second. closed_pair b c bytes after quote second (closed_from bytes after (ap (λ t. cond t (after_text bytes) (Some (c ∷ bytes))) (sym second) ∙ inside)))
    (λ single.
    let here : b ≡ 39 = eqb-true b 39 quote in
    let rest : Some (c ∷ bytes) ≡ Some after = ap (λ t. cond t (after_text bytes) (Some (c ∷ bytes))) (sym single) ∙ inside in
    let same : c ∷ bytes ≡ after = cc in
    ([], (λ i. here i ∷ same i), subst (λ l. ¬ BeginsQuoted l) same (λ h. both_ways (is_quote c) single h)))
    (cases_Bool (is_quote c)))
    (λ other. closed_other b (c ∷ bytes) after other (closed_from (c ∷ bytes) after (ap (λ t. cond t (cond (is_quote c) (after_text bytes) (Some (c ∷ bytes))) (after_text (c ∷ bytes))) (sym other) ∙ e)))
    (cases_Bool (is_quote b))

nothing_more : (after more others : List ℕ) → after ≡ others → after ≡ more ++ others → more ≡ []
nothing_more after more others same cut =
    nil_from_length more (let len : length others ≡ length more + length others = ap length (sym same ∙ cut) ∙ length-append more others in omega arith)

text_longest : (inner after : List ℕ) → ¬ BeginsQuoted after → (k : Kind) (more others : List ℕ) → more ≢ [] → after ≡ more ++ others → Is k (39 ∷ ((doubled inner ++ codes "'") ++ more)) others → ⊥
text_longest inner after single Text more others some e is =
    let found = after_text-closed inner after single in
    let again = after_text-closed is.0.0 others is.1 in
    let same_front : (doubled inner ++ codes "'") ++ more ≡ doubled is.0.0 ++ codes "'" = cc (is.0.1) in
    let whole : doubled inner ++ (39 ∷ after) ≡ doubled is.0.0 ++ (39 ∷ others) =
    ap (λ l. doubled inner ++ (39 ∷ l)) e
    ∙ sym (append_assoc (doubled inner) (codes "'") (more ++ others))
    ∙ sym (append_assoc (doubled inner ++ codes "'") more others)
    ∙ ap (λ l. l ++ others) same_front
    ∙ append_assoc (doubled is.0.0) (codes "'") others in
    let both : Some after ≡ Some others = sym found ∙ ap after_text whole ∙ again in
    some (nothing_more after more others (cc) e)
text_longest inner after single Word more others some e is = let other : ◌≡◌ {A = ℕ} 3 1 = Is-class Word 39 ((doubled inner ++ codes "'") ++ more) others is in omega arith
text_longest inner after single (Number n) more others some e is = let other : ◌≡◌ {A = ℕ} 3 2 = Is-class (Number n) 39 ((doubled inner ++ codes "'") ++ more) others is in omega arith
text_longest inner after single Mark more others some e is = let other : ◌≡◌ {A = ℕ} 3 4 = Is-class Mark 39 ((doubled inner ++ codes "'") ++ more) others is in omega arith

pub quote_first : (bytes : List ℕ) → is_quote (get_or bytes 0 0) ≡ true → bytes ≡ 39 ∷ drop 1 bytes
quote_first [] h = absurd (false≢true h)
quote_first (b ∷ bytes) h = let quote : b ≡ 39 = eqb-true b 39 h in ap (λ x. x ∷ bytes) quote

module _ (bytes body : List ℕ) (first : bytes ≡ 39 ∷ body) where
  pub found_text : (after : List ℕ) (n : ℕ) → after_text body ≡ Some after → n + length after ≡ length bytes → Found (Ok (record { kind = Some Text; len = n })) bytes
  found_text after n found len =
      let r = closed_from body after found in
      let front : List ℕ = 39 ∷ (doubled r.0 ++ codes "'") in
      let cut : bytes ≡ front ++ after = first ∙ ap (λ l. 39 ∷ l) (r.1 ∙ sym (append_assoc (doubled r.0) (codes "'") after)) in
      let total : length bytes ≡ length front + length after = ap length cut ∙ length-append front after in (
        Lexeme Text front,
        after,
        cut,
        (((r.0, refl), r.2), no_comment 39 ((doubled r.0 ++ codes "'") ++ after) (λ (e : 3 ≡ 4). omega arith), text_longest r.0 after r.2, tt),
        refl,
        omega arith,
      )

  pub open_string : after_text body ≡ None → Found (Err OpenString) bytes
  open_string none = (
    body,
    first,
    λ text after cut is.
        let rest : body ≡ doubled is.0.0 ++ (39 ∷ after) =
        (let whole : 39 ∷ body ≡ 39 ∷ ((doubled is.0.0 ++ codes "'") ++ after) = sym first ∙ cut ∙ ap (λ l. l ++ after) is.0.1 in
        let tail : body ≡ (doubled is.0.0 ++ codes "'") ++ after = cc in
        tail ∙ append_assoc (doubled is.0.0) (codes "'") after) in
        let both : None ≡ Some after = sym none ∙ ap after_text rest ∙ after_text-closed is.0.0 after is.1 in
        cc,
  )
