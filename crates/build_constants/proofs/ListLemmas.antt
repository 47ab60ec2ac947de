-- What one more element of a list gives, where each gives a value and faults.
use Rattle.std.proofs.Common.{◌≡◌, ◌∙◌, ◌+◌, ◌<◌, ◌≤◌, ◌++◌, ◌∷◌, [], ℕ, List, Option, ap, flat_map, get_or, length, map, subst, sym, take}
use Rattle.std.proofs.lemmas.List.{flat_map_more, map-append, map_more, take_all}
use Rattle.build_names.proofs.FaultLemmas.{both_noted}
use Rattle.build_names.specs.Faults.{Diagnostic, least_of}

-- `items` is the list as a call lends it
module _ {A B : Type 0} (g : A → B) (xs items : List A) (same : items ≡ xs) (i : ℕ) (x : A)
    (within : i < length items) (read : x ≡ get_or items i x) where
  taken-next : map g (take i xs) ++ g x ∷ [] ≡ map g (take (i + 1) xs)
  taken-next =
      let below = subst (λ l. i < length l) same within in
      let is = read ∙ ap (λ l. get_or l i x) same in
      ap (λ y. map g (take i xs) ++ g y ∷ []) is ∙ sym (map_more g xs i x below)

  pub one_more : {C : Type 0} (f : B → C) (before after : List C) (one : C) → before ≡ map f (map g (take i xs)) →
      one ≡ f (g x) → after ≡ before ++ one ∷ [] → after ≡ map f (map g (take (i + 1) xs))
  one_more f before after one was made added =
      added
      ∙ ap (λ l. l ++ one ∷ []) was
      ∙ ap (λ y. map f (map g (take i xs)) ++ y ∷ []) made
      ∙ sym (map-append f (map g (take i xs)) (g x ∷ []))
      ∙ ap (map f) taken-next

  pub noted_more : (f : B → List Diagnostic) (old before after : Option Diagnostic) →
      before ≡ least_of old (flat_map f (map g (take i xs))) → after ≡ least_of before (f (g x)) →
      after ≡ least_of old (flat_map f (map g (take (i + 1) xs)))
  noted_more f old before after was here =
      here
      ∙ ap (λ o. least_of o (f (g x))) was
      ∙ both_noted old (flat_map f (map g (take i xs))) (f (g x))
      ∙ ap (least_of old) (flat_map_more f [] (map g (take i xs)) (g x) ∙ ap (flat_map f) taken-next)

pub all_taken : {A : Type 0} (xs items : List A) → items ≡ xs → (i : ℕ) → length items ≤ i → take i xs ≡ xs
all_taken xs items same i past = take_all i xs (subst (λ l. length l ≤ i) same past)
