-- Lists whose items may be missing.
use Rattle.std.proofs.Common.{◌≡◌, ◌∙◌, ◌++◌, append-nil, append_assoc, flat_map, List, [], ◌∷◌, Option, None, Some, Result, Ok, Err, map, option_map, refl, ap, sym}
use Rattle.std.specs.Result.{IfOk, OnOk}
use Rattle.build_expressions.specs.Partial.{all_some, both}

both-map : {A B : Type 0} (f : A → B) (first : Option A) (rest : Option (List A)) →
    option_map (map f) (both ◌∷◌ first rest) ≡ both ◌∷◌ (option_map f first) (option_map (map f) rest)
both-map f None rest = refl
both-map f (Some first) None = refl
both-map f (Some first) (Some rest) = refl

-- what is made of the items, where all are there
pub all_some-map : {A B : Type 0} (f : A → B) (list : List (Option A)) →
    option_map (map f) (all_some list) ≡ all_some (map (option_map f) list)
all_some-map f [] = refl
all_some-map f (first ∷ rest) =
    both-map f first (all_some rest) ∙ ap (both ◌∷◌ (option_map f first)) (all_some-map f rest)

mapped : {T A B : Type 0} (items : T → List A) (f : A → B) (found : Option T) →
    option_map (λ list. map f (items list)) found ≡ option_map (map f) (option_map items found)
mapped items f None = refl
mapped items f (Some list) = refl

-- a list in which each item is there, and what is made of each
pub all_made : {T A B : Type 0} (items : T → List A) (f : A → B) (found : Option T) (list : List (Option A))
    (made : List (Option B)) → option_map items found ≡ all_some list → map (option_map f) list ≡ made →
    option_map (λ list. map f (items list)) found ≡ all_some made
all_made items f found list made is made_is =
    mapped items f found ∙ ap (option_map (map f)) is ∙ all_some-map f list ∙ ap all_some made_is

-- what one more element gives
pub flat_map-last : {A B : Type 0} (f : A → List B) (xs : List A) (x : A) →
    flat_map f (xs ++ x ∷ []) ≡ flat_map f xs ++ f x
flat_map-last f [] x = append-nil (f x)
flat_map-last f (y ∷ xs) x =
    ap (λ rest. f y ++ rest) (flat_map-last f xs x) ∙ sym (append_assoc (f y) (flat_map f xs) (f x))

-- what holds of the answer of a call, and what holds where it has one
pub if_on : {T E Q : Type 0} {P R : T → Type 0} (r : Result T E) → IfOk r P → OnOk r Q → ((x : T) → P x → Q → R x) →
    IfOk r R
if_on (Ok x) p q f = f x p q
if_on (Err e) p q f = tt

-- what holds whatever a call answers
pub on_any : {T E Q : Type 0} (r : Result T E) → Q → OnOk r Q
on_any (Ok x) q = q
on_any (Err e) q = tt
