-- What one more element of a list adds.
use Rattle.std.proofs.Common.{◌≡◌, ◌∙◌, ◌+◌, ◌<◌, ◌≤◌, ◌++◌, ◌∷◌, [], ℕ, List, ap, append_assoc, flat_map, get_or, length, map, sym, take}
use Rattle.std.proofs.lemmas.List.{flat_map_more, map-append, map_more, take_all}

module _ {A B C : Type 0} (g : A → B) (old before after : List C) (xs : List A) (i : ℕ) (x : A)
    (below : i < length xs) (is : x ≡ get_or xs i x) where
  taken-next : map g (take i xs) ++ g x ∷ [] ≡ map g (take (i + 1) xs)
  taken-next = ap (λ y. map g (take i xs) ++ g y ∷ []) is ∙ sym (map_more g xs i x below)

  -- what is made of it stands behind the rest
  pub behind_more : (f : B → List C) → before ≡ old ++ flat_map f (map g (take i xs)) → after ≡ before ++ f (g x) →
      after ≡ old ++ flat_map f (map g (take (i + 1) xs))
  behind_more f was here =
      here
      ∙ ap (λ l. l ++ f (g x)) was
      ∙ flat_map_more f old (map g (take i xs)) (g x)
      ∙ ap (λ l. old ++ flat_map f l) taken-next

  -- one thing is made of each
  pub mapped_more : (f : B → C) (one : C) → before ≡ old ++ map f (map g (take i xs)) → one ≡ f (g x) →
      after ≡ before ++ one ∷ [] → after ≡ old ++ map f (map g (take (i + 1) xs))
  mapped_more f one was made here =
      here
      ∙ ap (λ l. l ++ one ∷ []) was
      ∙ append_assoc old (map f (map g (take i xs))) (one ∷ [])
      ∙ ap (λ l. old ++ l) (ap (λ y. map f (map g (take i xs)) ++ y ∷ []) made
      ∙ sym (map-append f (map g (take i xs)) (g x ∷ [])) ∙ ap (map f) taken-next)

pub behind_all : {A B C : Type 0} (g : A → B) (old before : List C) (xs : List A) (i : ℕ) (f : B → List C) →
    length xs ≤ i → before ≡ old ++ flat_map f (map g (take i xs)) → before ≡ old ++ flat_map f (map g xs)
behind_all g old before xs i f past was = was ∙ ap (λ l. old ++ flat_map f (map g l)) (take_all i xs past)
