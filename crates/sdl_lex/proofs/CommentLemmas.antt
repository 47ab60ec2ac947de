-- Comments: where they end.
use Rattle.std.proofs.Common.{◌≡◌, ℕ, ◌+◌, ◌≤◌, ◌&&◌, cond, eqb, Some, None, inr, List, [], ◌∷◌, ◌++◌, length, drop, sym, refl, ap, ◌∙◌, ⊎_elim, arith, append_assoc, length-append}
use Rattle.std.specs.Prelude.{codes, Ok, Err}
use Rattle.std.proofs.lemmas.Bool.{cases_Bool, and_parts, eqb-true}
use Rattle.std.proofs.lemmas.List.{nil_from_length}
use Rattle.sdl_lex.specs.declared.piece.Fault.TheVariants.{OpenComment}
use Rattle.sdl_lex.specs.Part.{Gap, BeginsComment}
use Rattle.sdl_lex.specs.Piece.{Found, after_comment}

-- what is found stands after a `*/`
after_comment-some : (body after : List ℕ) → after_comment body ≡ Some after → (inner : List ℕ) × (body ≡ inner ++ (codes "*/" ++ after))
after_comment-some [] after e = cc
after_comment-some (b ∷ []) after e = cc
after_comment-some (b ∷ c ∷ bytes) after e =
    ⊎_elim
    (λ closes.
    let star : b ≡ 42 = eqb-true b 42 (and_parts (eqb b 42) (eqb c 47) closes).0 in
    let slash : c ≡ 47 = eqb-true c 47 (and_parts (eqb b 42) (eqb c 47) closes).1 in
    let rest : Some bytes ≡ Some after = ap (λ t. cond t (Some bytes) (after_comment (c ∷ bytes))) (sym closes) ∙ e in
    let same : bytes ≡ after = cc in
    ([], λ i. star i ∷ (slash i ∷ same i)))
    (λ on.
    let r = after_comment-some (c ∷ bytes) after (ap (λ t. cond t (Some bytes) (after_comment (c ∷ bytes))) (sym on) ∙ e) in
    (b ∷ r.0, ap (λ l. b ∷ l) r.1))
    (cases_Bool (eqb b 42 && eqb c 47))

abbrev FindsBy : List ℕ → ℕ → Type 0
FindsBy body n = (found : List ℕ) × (after_comment body ≡ Some found) × (n ≤ length found)

finds_sooner : (b c n : ℕ) (bytes : List ℕ) → n ≤ length bytes → FindsBy (c ∷ bytes) n → FindsBy (b ∷ c ∷ bytes) n
finds_sooner b c n bytes fits r =
    ⊎_elim
    (λ closes. (bytes, ap (λ t. cond t (Some bytes) (after_comment (c ∷ bytes))) closes, fits))
    (λ on. (r.0, ap (λ t. cond t (Some bytes) (after_comment (c ∷ bytes))) on ∙ r.1, r.2))
    (cases_Bool (eqb b 42 && eqb c 47))

-- where a `*/` stands, it or an earlier one is found
finds_first : (before after : List ℕ) → FindsBy (before ++ (codes "*/" ++ after)) (length after)
finds_first [] after = (after, refl, omega arith)
finds_first (b ∷ []) after = finds_sooner b 42 (length after) (47 ∷ after) (omega arith) (finds_first [] after)
finds_first (b ∷ c ∷ before) after =
    finds_sooner b c (length after) (before ++ (codes "*/" ++ after)) (let len = length-append before (codes "*/" ++ after) in omega arith) (finds_first (c ∷ before) after)

first_close : (body after : List ℕ) → after_comment body ≡ Some after → (before others : List ℕ) → body ≡ before ++ (codes "*/" ++ (others ++ after)) → others ≡ []
first_close body after found before others e =
    let r = finds_first before (others ++ after) in
    let both : Some r.0 ≡ Some after = sym r.1 ∙ ap after_comment (sym e) ∙ found in
    let same : r.0 ≡ after = cc in
    nil_from_length others (let len = length-append others after in let size = ap length same in omega (arith, r.2))

pub comment_first : (bytes : List ℕ) → BeginsComment bytes → bytes ≡ codes "/*" ++ drop 2 bytes
comment_first bytes h = h.1 ∙ ap (λ l. codes "/*" ++ l) (sym (ap (drop 2) h.1))

module _ (bytes body : List ℕ) (first : bytes ≡ codes "/*" ++ body) where
  pub found_comment : (after : List ℕ) (n : ℕ) → after_comment body ≡ Some after → n + length after ≡ length bytes → Found (Ok (record { kind = None; len = n })) bytes
  found_comment after n found len =
      let r = after_comment-some body after found in
      let inner : List ℕ = r.0 in
      let front : List ℕ = codes "/*" ++ (inner ++ codes "*/") in
      let cut : bytes ≡ front ++ after = first ∙ ap (λ l. codes "/*" ++ l) (r.1 ∙ sym (append_assoc inner (codes "*/") after)) in
      let total : length bytes ≡ length front + length after = ap length cut ∙ length-append front after in
      let next = λ (before : List ℕ) (others : List ℕ) (e : inner ++ codes "*/" ≡ before ++ (codes "*/" ++ others)).
      first_close body after found before others
      (r.1 ∙ sym (append_assoc inner (codes "*/") after) ∙ ap (λ l. l ++ after) e ∙ append_assoc before (codes "*/" ++ others) after) in
      (Gap front, after, cut, inr (inner, refl, next), refl, omega arith)

  pub open_comment : after_comment body ≡ None → Found (Err OpenComment) bytes
  open_comment none = (
    body,
    first,
    λ before after e.
        let r = finds_first before after in
        let both : None ≡ Some r.0 = sym none ∙ ap after_comment e ∙ r.1 in
        cc,
  )
