-- Lists of faults that are empty.
use Rattle.std.proofs.Common.{◌≡◌, ◌++◌, Bool, true, false, List, [], ◌∷◌, flat_map, refl, sym, subst, inl, inr}
use Rattle.build_names.specs.FaultLaws.{In}
use Rattle.build_names.specs.Faults.{fault_if}
use Rattle.build_names.specs.declared.faults.fault.Rule.{Rule}
use Rattle.sdl_tree.specs.Words.{Spot}

pub left-empty : {A : Type 0} (xs ys : List A) → xs ++ ys ≡ [] → xs ≡ []
left-empty [] ys is = refl
left-empty (x ∷ xs) ys is = cc

pub right-empty : {A : Type 0} (xs ys : List A) → xs ++ ys ≡ [] → ys ≡ []
right-empty [] ys is = is
right-empty (x ∷ xs) ys is = cc

pub none-empty : {A B : Type 0} (f : A → List B) (xs : List A) → flat_map f xs ≡ [] → (x : A) → In x xs → f x ≡ []
none-empty f [] is x at = absurd at
none-empty f (y ∷ xs) is x at =
    elim at [
      | inl same ↦ subst (λ z. f z ≡ []) (sym same) (left-empty (f y) (flat_map f xs) is)
      | inr later ↦ none-empty f xs (right-empty (f y) (flat_map f xs) is) x later
    ]

pub not-broken : (broken : Bool) (kind : Rule) (word : Spot) → fault_if broken kind word ≡ [] → broken ≡ false
not-broken true kind word is = cc
not-broken false kind word is = refl
