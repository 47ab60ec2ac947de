-- What a loop keeps of each item at its place.
use Rattle.std.proofs.Common.{◌≡◌, ◌<◌, ◌≤◌, ◌+◌, ◌∙◌, ap, arith, get_or, length, refl, subst, suc, sym, ⊎_elim, ℕ, List, [], ◌∷◌, ◌++◌}
use Rattle.std.specs.List.{AllZip}
use Rattle.std.proofs.lemmas.Bool.{cases_eq}
use Rattle.std.proofs.lemmas.List.{get_or_append_left, get_or_push, get_or_read, length_push}
use Rattle.settle_checks.specs.Account.{AllAt}

module _ {X : Type 0} (P : ℕ → X → Type 0) (xs : List X) (i : ℕ) where
  -- it holds of one item more
  pub at_more : (x : X) → i < length xs → x ≡ get_or xs i x → ((k : ℕ) (d : X) → k < i → P k (get_or xs k d)) → P i x
      → (k : ℕ) (d : X) → k < i + 1 → P k (get_or xs k d)
  at_more x within is done here k d below =
      ⊎_elim
      (λ (same : k ≡ i).
      subst (λ n. P n (get_or xs n d)) (sym same) (subst (P i) (get_or_read xs i x within is d) here))
      (λ (apart : k ≡ i → ⊥). done k d (grind (arith, below, apart)))
      (cases_eq k i)

  -- in the end it holds of all
  pub at_done : length xs ≤ i → ((k : ℕ) (d : X) → k < i → P k (get_or xs k d)) → AllAt P xs
  at_done past done k d within = done k d (omega (arith, past, within))

-- what holds of each at its place holds of each with one more at the end
pub at_push : {X : Type 0} (P : ℕ → X → Type 0) (xs : List X) (x : X) → AllAt P xs → P (length xs) x
    → AllAt P (xs ++ x ∷ [])
at_push P xs x all here k d within =
    ⊎_elim
    (λ (same : k ≡ length xs).
    subst (λ n. P n (get_or (xs ++ x ∷ []) n d)) (sym same)
    (subst (P (length xs)) (sym (get_or_push xs x d (length xs) (λ _. length xs))) here))
    (λ (apart : k ≡ length xs → ⊥).
    let less : k < length xs = grind (arith, within, apart, length_push xs x) in
    subst (P k) (sym (get_or_append_left xs (x ∷ []) d k less)) (all k d less))
    (cases_eq k (length xs))

-- two lists, each with one more that fit
pub zip_push : {A B : Type 0} (R : A → B → Type 0) (xs : List A) (ys : List B) (x : A) (y : B) → AllZip R xs ys → R x y
    → AllZip R (xs ++ x ∷ []) (ys ++ y ∷ [])
zip_push R [] [] x y zip fits = (fits, tt)
zip_push R [] (b ∷ ys) x y zip fits = absurd zip
zip_push R (a ∷ xs) [] x y zip fits = absurd zip
zip_push R (a ∷ xs) (b ∷ ys) x y zip fits = (zip.0, zip_push R xs ys x y zip.1 fits)

-- lists with the same at each place are the same
pub same_each : {X : Type 0} (xs ys : List X) → length ys ≡ length xs
    → ((i : ℕ) (d : X) → i < length xs → get_or ys i d ≡ get_or xs i d) → ys ≡ xs
same_each [] [] same each = refl
same_each [] (y ∷ ys) same each = absurd (omega (arith, same))
same_each (x ∷ xs) [] same each = absurd (omega (arith, same))
same_each (x ∷ xs) (y ∷ ys) same each =
    ap (λ l. l ∷ ys) (each 0 x (omega arith))
    ∙ ap (λ l. x ∷ l) (same_each xs ys (omega (arith, same)) (λ i d here. each (suc i) d (omega (arith, here))))
