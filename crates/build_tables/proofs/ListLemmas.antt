-- Lists that are made one element after another.
use Rattle.std.proofs.Common.{◌≡◌, ◌∙◌, ◌==◌, ◌+◌, ◌<◌, ◌++◌, ℕ, zero, suc, Bool, true, false, Contains, List, [], ◌∷◌, ap, arith, get_or, length, map, refl, sym, take}
use Rattle.std.proofs.lemmas.List.{get_or_append_left, get_or_push, length-map, map-append}
use Rattle.build_states.proofs.AnswerLemmas.{taken-more}

-- one more that shows what the next of the others does
pub shown-more : {A B C : Type 0} (f : A → C) (g : B → C) (xs : List A) (i : ℕ) (x : A) → i < length xs →
    x ≡ get_or xs i x → (list new : List B) (one : B) → map g list ≡ map f (take i xs) → g one ≡ f x →
    new ≡ list ++ one ∷ [] → map g new ≡ map f (take (i + 1) xs)
shown-more f g xs i x below is list new one before shows added =
    ap (map g) added
    ∙ map-append g list (one ∷ [])
    ∙ ap (λ done. done ++ g one ∷ []) before
    ∙ ap (λ y. map f (take i xs) ++ y ∷ []) shows
    ∙ sym (taken-more f xs i x below is)

at-mapped : {A B : Type 0} (f : A → B) (xs : List A) (k : ℕ) (d : A) (e : B) → k < length xs →
    get_or (map f xs) k e ≡ f (get_or xs k d)
at-mapped f [] k d e below = absurd (omega (arith, below))
at-mapped f (y ∷ ys) zero d e below = refl
at-mapped f (y ∷ ys) (suc k) d e below = at-mapped f ys k d e (omega (arith, below))

-- what an element of a list shows is among what they show
pub contains-at : {A B : Type 0} (f : A → B) (xs : List A) (k : ℕ) (d : A) → k < length xs →
    Contains (map f xs) (f (get_or xs k d))
contains-at f xs k d below =
    (k, omega (arith, below, length-map xs f), at-mapped f xs k d (f (get_or xs k d)) below)

-- what holds of each place, one more behind them
pub each-more : {A : Type 0} (xs : List A) (y d : A) (n : ℕ) (f : ℕ → A) → length xs ≡ n →
    ((k : ℕ) → k < n → get_or xs k d ≡ f k) → y ≡ f n → (k : ℕ) → k < n + 1 → get_or (xs ++ y ∷ []) k d ≡ f k
each-more xs y d n f long each is k below = by (n == k) refl
  where
    by : (b : Bool) → (n == k) ≡ b → get_or (xs ++ y ∷ []) k d ≡ f k
    by true same =
        let here : n ≡ k = grind arith in
        get_or_push xs y d k (long ∙ here) ∙ is ∙ ap f here
    by false apart =
        let less : k < n = grind (arith, below, apart) in
        get_or_append_left xs (y ∷ []) d k (omega (arith, less, long)) ∙ each k less
