-- What one more element of a list adds.
use Rattle.std.proofs.Common.{◌≡◌, ◌∙◌, ℕ, ◌+◌, ◌<◌, ◌++◌, List, [], ◌∷◌, Option, ap, append_assoc, flat_map, get_or, length, map, sym, take}
use Rattle.std.proofs.lemmas.Grind.{take_at_read}
use Rattle.std.proofs.lemmas.List.{map-append}
use Rattle.build_names.proofs.FaultLemmas.{both_noted}
use Rattle.build_names.specs.Faults.{Diagnostic, least_of}
use Rattle.build_statements.proofs.ListLemmas.{flat_map-last}

module _ {A B : Type 0} (g : A → B) (xs : List A) (i : ℕ) (x : A) (below : i < length xs) (is : x ≡ get_or xs i x) where
  taken-next : map g (take i xs) ++ g x ∷ [] ≡ map g (take (i + 1) xs)
  taken-next =
      sym (ap (map g) ((take_at_read xs i x below).1 ∙ ap (λ y. take i xs ++ y ∷ []) (sym is))
      ∙ map-append g (take i xs) (x ∷ []))

  -- what is made of it is added behind the others
  pub pushed-next : {T C : Type 0} (made : T → C) (f : B → C) (items new : List T) (one : T) →
      map made items ≡ map f (map g (take i xs)) → made one ≡ f (g x) → new ≡ items ++ one ∷ [] →
      map made new ≡ map f (map g (take (i + 1) xs))
  pushed-next made f items new one before here pushed =
      ap (map made) pushed
      ∙ map-append made items (one ∷ [])
      ∙ ap (λ list. list ++ made one ∷ []) before
      ∙ ap (λ y. map f (map g (take i xs)) ++ y ∷ []) here
      ∙ sym (map-append f (map g (take i xs)) (g x ∷ []))
      ∙ ap (map f) taken-next

  pub added-next : {C : Type 0} (f : B → C) (items new : List C) (one : C) → items ≡ map f (map g (take i xs)) →
      one ≡ f (g x) → new ≡ items ++ one ∷ [] → new ≡ map f (map g (take (i + 1) xs))
  added-next f items new one before here added =
      added
      ∙ ap (λ list. list ++ one ∷ []) before
      ∙ ap (λ y. map f (map g (take i xs)) ++ y ∷ []) here
      ∙ sym (map-append f (map g (take i xs)) (g x ∷ []))
      ∙ ap (map f) taken-next

  -- the same behind what was there first
  pub pushed-behind : {T C : Type 0} (made : T → C) (f : B → C) (first : List C) (items new : List T) (one : T) →
      map made items ≡ first ++ map f (map g (take i xs)) → made one ≡ f (g x) → new ≡ items ++ one ∷ [] →
      map made new ≡ first ++ map f (map g (take (i + 1) xs))
  pushed-behind made f first items new one before here pushed =
      ap (map made) pushed
      ∙ map-append made items (one ∷ [])
      ∙ ap (λ list. list ++ made one ∷ []) before
      ∙ append_assoc first (map f (map g (take i xs))) (made one ∷ [])
      ∙ ap (λ list. first ++ list) (ap (λ y. map f (map g (take i xs)) ++ y ∷ []) here
      ∙ sym (map-append f (map g (take i xs)) (g x ∷ []))
      ∙ ap (map f) taken-next)

  -- its faults are noted behind those of the others
  pub noted-next : (faults : B → List Diagnostic) (old before after : Option Diagnostic) →
      before ≡ least_of old (flat_map faults (map g (take i xs))) → after ≡ least_of before (faults (g x)) →
      after ≡ least_of old (flat_map faults (map g (take (i + 1) xs)))
  noted-next faults old before after noted here =
      here
      ∙ ap (λ o. least_of o (faults (g x))) noted
      ∙ both_noted old (flat_map faults (map g (take i xs))) (faults (g x))
      ∙ ap (least_of old) (sym (flat_map-last faults (map g (take i xs)) (g x)) ∙ ap (flat_map faults) taken-next)

  -- its items stand behind those of the others
  pub joined-next : {C : Type 0} (f : B → List C) (before after : List C) → before ≡ flat_map f (map g (take i xs)) →
      after ≡ before ++ f (g x) → after ≡ flat_map f (map g (take (i + 1) xs))
  joined-next f before after was here =
      here
      ∙ ap (λ list. list ++ f (g x)) was
      ∙ sym (flat_map-last f (map g (take i xs)) (g x))
      ∙ ap (flat_map f) taken-next
