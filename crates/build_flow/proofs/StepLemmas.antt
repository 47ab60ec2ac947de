-- What one more element of a list adds.
use Rattle.std.proofs.Common.{◌≡◌, ◌∙◌, ℕ, ◌+◌, ◌<◌, ◌++◌, List, [], ◌∷◌, Option, None, Some, ap, append-nil, append_assoc, arith, flat_map, get_or, length, map, refl, sym, take}
use Rattle.std.proofs.lemmas.Grind.{take_at_read}
use Rattle.std.proofs.lemmas.List.{map-append}
use Rattle.build_flow.specs.Turns.{sooner}

flat_map-last : {A B : Type 0} (f : A → List B) (xs : List A) (x : A) →
    flat_map f (xs ++ x ∷ []) ≡ flat_map f xs ++ f x
flat_map-last f [] x = append-nil (f x)
flat_map-last f (y ∷ xs) x =
    ap (λ rest. f y ++ rest) (flat_map-last f xs x) ∙ sym (append_assoc (f y) (flat_map f xs) (f x))

pub taken-more : {A B C : Type 0} (f : B → List C) (g : A → B) (xs : List A) (i : ℕ) (x : A) → i < length xs →
    x ≡ get_or xs i x → flat_map f (map g (take i xs)) ++ f (g x) ≡ flat_map f (map g (take (i + 1) xs))
taken-more f g xs i x below is =
    sym (ap (λ list. flat_map f (map g list))
    ((take_at_read xs i x below).1 ∙ ap (λ y. take i xs ++ y ∷ []) (sym is))
    ∙ ap (flat_map f) (map-append g (take i xs) (x ∷ []))
    ∙ flat_map-last f (map g (take i xs)) (g x))

pub sooner-none : (one : Option ℕ) → sooner one None ≡ one
sooner-none None = refl
sooner-none (Some one) = refl

-- the sooner of three turns
pub sooner-three : (one other last : Option ℕ) → sooner (sooner one other) last ≡ sooner one (sooner other last)
sooner-three None other last = refl
sooner-three (Some one) None last = refl
sooner-three (Some one) (Some other) None = sooner-none (sooner (Some one) (Some other))
sooner-three (Some one) (Some other) (Some last) = grind arith
