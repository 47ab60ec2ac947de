-- Messages one after the other.
use Rattle.std.proofs.Common.{◌≡◌, ◌<◌, ◌≤◌, ◌+◌, ℕ, List, [], ◌∷◌, ◌++◌, ap, get_or, length, subst, sym, take, take_all, ◌∙◌}
use Rattle.std.proofs.lemmas.List.{take_more}
use Rattle.explain_syntax.specs.Explanation.{explanation_text}
use Rattle.sdl_explain.specs.Told.{AreTold, nothing, one_more}
use Rattle.explain_syntax.specs.declared.lines.explanation.Explanation.{Explanation}
use Rattle.explain_syntax.specs.declared.lines.origin.Origin.{Origin}

module _ (X : Type 0) (Tells : X → Explanation → Type 0) (origin : Origin) (things : List X) where
  abbrev Told : List X → List ℕ → Type 0
  Told = AreTold X Tells origin

  pub none : (told : List ℕ) → told ≡ [] → Told [] told
  none told is = subst (λ t. Told [] t) (sym is) nothing

  pub on : (index : ℕ) (d thing : X) (message : Explanation) (told text told' : List ℕ) → index < length things
      → thing ≡ get_or things index d → Told (take index things) told → Tells thing message
      → text ≡ explanation_text origin message → told' ≡ told ++ text → Told (take (index + 1) things) told'
  on index d thing message told text told' within is so_far tells says grows =
      let more = take_more things index d within ∙ ap (λ x. take index things ++ x ∷ []) (sym is) in
      let whole = grows ∙ ap (λ t. told ++ t) says in
      subst (λ l. Told l told') (sym more)
      (subst (λ t. Told (take index things ++ thing ∷ []) t) (sym whole)
      (one_more (take index things) told thing message so_far tells))

  pub all : (index : ℕ) (told : List ℕ) → length things ≤ index → Told (take index things) told → Told things told
  all index told end so_far = subst (λ l. Told l told) (take_all index things end) so_far
