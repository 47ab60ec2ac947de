-- What is made of one more element of a list stands behind the rest.
use Rattle.std.proofs.Common.{◌≡◌, ◌∙◌, ◌+◌, ◌<◌, ◌≤◌, ◌++◌, ◌∷◌, [], ℕ, List, ap, flat_map, get_or, length, map, sym, take}
use Rattle.std.proofs.lemmas.List.{flat_map_more, map-append, map_more, take_all}

pub behind_more : {A B C : Type 0} (f : B → List C) (g : A → B) (old before after : List C) (xs : List A) (i : ℕ)
    (x : A) →
    i < length xs → x ≡ get_or xs i x → before ≡ old ++ flat_map f (map g (take i xs)) → after ≡ before ++ f (g x) →
    after ≡ old ++ flat_map f (map g (take (i + 1) xs))
behind_more f g old before after xs i x below is was here =
    here
    ∙ ap (λ l. l ++ f (g x)) was
    ∙ flat_map_more f old (map g (take i xs)) (g x)
    ∙ ap (λ l. old ++ flat_map f l) (ap (λ y. map g (take i xs) ++ g y ∷ []) is ∙ sym (map_more g xs i x below))

pub behind_all : {A B C : Type 0} (f : B → List C) (g : A → B) (old before : List C) (xs : List A) (i : ℕ) →
    length xs ≤ i → before ≡ old ++ flat_map f (map g (take i xs)) → before ≡ old ++ flat_map f (map g xs)
behind_all f g old before xs i past was = was ∙ ap (λ l. old ++ flat_map f (map g l)) (take_all i xs past)

-- one thing is made of each, and seen by a view
pub made_more : {T A B C : Type 0} (view : T → C) (f : B → C) (g : A → B) (before after : List T) (one : T) (xs : List A)
    (i : ℕ) (x : A) → i < length xs → x ≡ get_or xs i x → map view before ≡ map f (map g (take i xs)) →
    after ≡ before ++ one ∷ [] → view one ≡ f (g x) → map view after ≡ map f (map g (take (i + 1) xs))
made_more view f g before after one xs i x below is was added made =
    ap (map view) added
    ∙ map-append view before (one ∷ [])
    ∙ ap (λ l. l ++ view one ∷ []) was
    ∙ ap (λ y. map f (map g (take i xs)) ++ y ∷ []) made
    ∙ sym (map-append f (map g (take i xs)) (g x ∷ []))
    ∙ ap (map f) (ap (λ y. map g (take i xs) ++ g y ∷ []) is ∙ sym (map_more g xs i x below))
