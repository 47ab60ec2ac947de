-- A list with one item more, split at some item.
use Rattle.std.proofs.Common.{◌≡◌, ◌∙◌, ◌⊎◌, ap, inl, inr, refl, sym, ⊎_elim, List, [], ◌∷◌, ◌++◌}

-- the item stands in the list, before the last
pub record StandsIn {X : Type 0} (xs : List X) (last x : X) (before later : List X) : Type 0 where
  pub rest : List X
  pub later_is : later ≡ rest ++ last ∷ []
  pub stands : xs ≡ before ++ x ∷ rest

-- or it is the last
pub record IsLast {X : Type 0} (xs : List X) (last x : X) (before later : List X) : Type 0 where
  pub before_is : before ≡ xs
  pub same : last ≡ x

module _ {X : Type 0} (last x : X) where
  not_empty : (before later : List X) → before ++ x ∷ later ≡ [] → ⊥
  not_empty [] later is = cc
  not_empty (b ∷ bs) later is = cc

  same_tail : {a b : X} {xs ys : List X} → a ∷ xs ≡ b ∷ ys → xs ≡ ys
  same_tail e = cc

  same_head : {a b : X} {xs ys : List X} → a ∷ xs ≡ b ∷ ys → a ≡ b
  same_head e = cc

  pub last_or : (xs before later : List X) → xs ++ last ∷ [] ≡ before ++ x ∷ later
      → IsLast xs last x before later ⊎ StandsIn xs last x before later
  last_or [] [] later is = inl (record { before_is = refl; same = same_head is })
  last_or [] (b ∷ bs) later is = absurd (not_empty bs later (sym (same_tail is)))
  last_or (v ∷ vs) [] later is = inr (record {
    rest = vs;
    later_is = sym (same_tail is);
    stands = ap (λ y. y ∷ vs) (same_head is);
  })
  last_or (v ∷ vs) (b ∷ bs) later is =
      ⊎_elim (λ (end : IsLast vs last x bs later). inl (record {
        before_is = ap (λ y. y ∷ bs) (sym (same_head is)) ∙ ap (λ l. v ∷ l) end.before_is;
        same = end.same;
      }))
      (λ (stands : StandsIn vs last x bs later). inr (record {
        rest = stands.rest;
        later_is = stands.later_is;
        stands = ap (λ y. y ∷ vs) (same_head is) ∙ ap (λ l. b ∷ l) stands.stands;
      }))
      (last_or vs bs later (same_tail is))
