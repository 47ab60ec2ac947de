-- One too many inside each other, in a whole text.
use Rattle.sdl_parse.proofs.Words.{Anywhere, Fixed, GoesOn, IsHead, IsOpening, OpensTooMany, Spelling, SpellsTree, TooMany, Word, Words, ℕ, [], ap, append-nil, append_assoc, arith, first_word, inl, inr, length, length-append, subst, suc, sym, ◌++◌, ◌∙◌, ◌∷◌, ◌≡◌, ◌⊎◌}
use Rattle.sdl_tree.specs.declared.mark.Mark.TheVariants as mark
use Rattle.sdl_tree.specs.Depth as depth
use Rattle.sdl_parse.proofs.SystemLaws.{SpellsSystem}

-- a word among some and a last one is that last one, or among the others
in_passed : (before between passed : Words) (opening last : Word) → passed ++ last ∷ [] ≡ before ++ opening ∷ between
    → (opening ≡ last) ⊎ ((rest : Words) × (passed ≡ before ++ opening ∷ rest))
in_passed [] between [] opening last e = inl (sym (ap (first_word last) e))
in_passed [] between (v ∷ passed) opening last e = inr (passed, ap (λ w. w ∷ passed) (ap (first_word v) e))
in_passed (x ∷ before) between [] opening last e =
    let one = ap length e in let more = length-append before (opening ∷ between) in absurd (omega (arith, one, more))
in_passed (x ∷ before) between (v ∷ passed) opening last e =
    elim (in_passed before between passed opening last (cc)) as (λ _. (opening ≡ last) ⊎ ((rest : Words) × (v ∷ passed ≡ x ∷ before ++ opening ∷ rest))) [
      | inl a ↦ inl a
      | inr a ↦ inr (a.0, ap (λ w. w ∷ passed) (ap (first_word v) e) ∙ ap (λ k. x ∷ k) a.1)
    ]

opens_not_active : (w : Word) (r : Spelling) → IsOpening w → w ≡ Fixed mark.Active r → ⊥
opens_not_active w r (s, inl e) a = cc
opens_not_active w r (s, inr e) a = cc

module _ (d : ℕ) (i left : Words) (many : TooMany (SpellsSystem d) (SpellsSystem (suc d)) Anywhere i left) where
  abbrev IsTold : Type 0
  IsTold = (front back : Words) × (w : Word) × (i ≡ front ++ w ∷ back) × (left ≡ w ∷ back) × OpensTooMany d front w

  -- up to what was passed, it goes on
  goes_before : (before between : Words) (opening : Word) → many.passed ≡ before ++ opening ∷ between → depth.GoesOn d (before ++ opening ∷ [])
  goes_before before between opening e = on many.goes
    where
      on : (many.passed ≡ []) ⊎ GoesOn (SpellsSystem d) Anywhere many.passed → depth.GoesOn d (before ++ opening ∷ [])
      on (inl none) = let same = ap length (sym e ∙ none) in let some = length-append before (opening ∷ between) in absurd (omega (arith, same, some))
      on (inr g) =
          let behind : Words = g.1 ++ [] in
          let whole : many.passed ++ behind ≡ (before ++ opening ∷ []) ++ (between ++ behind) =
          ap (λ k. k ++ behind) e ∙ append_assoc before (opening ∷ between) behind ∙ sym (append_assoc before (opening ∷ []) (between ++ behind)) in
          let F : Words → Type 0 = λ k. SpellsTree d g.0 k in
          (g.0, between ++ behind, subst F whole (g.2 [] tt))

  -- with the words in between, which are the front's last ones
  told_at : (between : Words) → many.head ≡ between ++ many.opening ∷ []
      → ((before rest : Words) (opening : Word) → many.passed ++ between ≡ before ++ opening ∷ rest → IsOpening opening → depth.GoesOn d (before ++ opening ∷ []))
      → IsTold
  told_at between e before =
      let front : Words = many.passed ++ between in
      let w : Word = many.opening in
      let whole : (k : Words) → many.passed ++ (many.head ++ k) ≡ (front ++ w ∷ []) ++ k =
      λ k. ap (λ h. many.passed ++ (h ++ k)) e ∙ sym (append_assoc many.passed (between ++ w ∷ []) k) ∙ ap (λ h. h ++ k) (sym (append_assoc many.passed between (w ∷ []))) in
      let back : Words = many.more.1 ++ [] in
      let F : Words → Type 0 = λ k. SpellsTree (suc d) many.more.0 k in (
        front,
        many.back,
        w,
        many.at ∙ whole many.back ∙ append_assoc front (w ∷ []) many.back,
        many.here,
        (
          many.opens,
          (many.more.0, back, subst F (whole back) (many.more.2 [] tt)),
          λ g. let G : Words → Type 0 = λ k. SpellsTree d g.0 k in many.barred g.1 g.0 [] (subst G (sym (whole g.1)) g.2) tt,
          before,
        ),
      )

  pub one_too_many : IsTold
  one_too_many = by many.heads
    where
      by : IsHead many.head many.opening → IsTold
      by (inl e) = told_at [] e (λ before rest opening at opens. goes_before before rest opening (sym (append-nil many.passed) ∙ at))
      by (inr e) = told_at (Fixed mark.Active e.0 ∷ []) e.1
          (λ before rest opening at opens. elim (in_passed before rest many.passed opening (Fixed mark.Active e.0) at) as (λ _. depth.GoesOn d (before ++ opening ∷ [])) [
            | inl a ↦ absurd (opens_not_active opening e.0 opens a)
            | inr a ↦ goes_before before a.0 opening a.1
          ])
