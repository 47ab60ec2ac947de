-- Two lists whose items belong together, place by place.
use Rattle.std.proofs.Common.{◌≡◌, ◌∙◌, ◌<◌, ◌||◌, ap, arith, get_or, length, refl, subst, sym, ℕ, zero, suc, All, Bool, List, [], ◌∷◌}
use Rattle.std.specs.List.{AllZip, list_any}
use Rattle.std.proofs.lemmas.List.Elements.{All-cons, All-head, All-nil, All-tail}

module _ {X Y : Type 0} (R : X → Y → Type 0) where
  pub zip_at : (xs : List X) (ys : List Y) (k : ℕ) (d : X) (e : Y) → AllZip R xs ys → k < length xs
      → R (get_or xs k d) (get_or ys k e)
  zip_at [] ys k d e zip within = let wrong : ⊥ = omega (arith, within) in absurd wrong
  zip_at (x ∷ xs) [] k d e zip within = absurd zip
  zip_at (x ∷ xs) (y ∷ ys) zero d e zip within = zip.0
  zip_at (x ∷ xs) (y ∷ ys) (suc k) d e zip within = zip_at xs ys k d e zip.1 (omega (arith, within))

  pub zip_long : (xs : List X) (ys : List Y) → AllZip R xs ys → length xs ≡ length ys
  zip_long [] [] zip = refl
  zip_long [] (y ∷ ys) zip = absurd zip
  zip_long (x ∷ xs) [] zip = absurd zip
  zip_long (x ∷ xs) (y ∷ ys) zip = ap suc (zip_long xs ys zip.1)

  pub zip_any : (p : X → Bool) (q : Y → Bool) → ((x : X) (y : Y) → R x y → p x ≡ q y)
      → (xs : List X) (ys : List Y) → AllZip R xs ys → list_any p xs ≡ list_any q ys
  zip_any p q same [] [] zip = refl
  zip_any p q same [] (y ∷ ys) zip = absurd zip
  zip_any p q same (x ∷ xs) [] zip = absurd zip
  zip_any p q same (x ∷ xs) (y ∷ ys) zip =
      ap (λ b. b || list_any p xs) (same x y zip.0) ∙ ap (λ b. q y || b) (zip_any p q same xs ys zip.1)

  -- so of two items that stand at one place
  pub zip_of : (xs : List X) (ys : List Y) (k : ℕ) (x : X) (y : Y) → AllZip R xs ys → k < length xs → x ≡ get_or xs k x
      → y ≡ get_or ys k y → R x y
  zip_of xs ys k x y zip within x_is y_is =
      subst (λ (z : X). R z y) (sym x_is)
      (subst (λ (z : Y). R (get_or xs k x) z) (sym y_is) (zip_at xs ys k x y zip within))

  -- what is so of all of one list is so of those that belong to them
  pub zip_all : (P : Y → Type 0) (Q : X → Type 0) → ((x : X) (y : Y) → R x y → P y → Q x)
      → (xs : List X) (ys : List Y) → AllZip R xs ys → All P ys → All Q xs
  zip_all P Q more [] [] zip all = All-nil Q
  zip_all P Q more [] (y ∷ ys) zip all = absurd zip
  zip_all P Q more (x ∷ xs) [] zip all = absurd zip
  zip_all P Q more (x ∷ xs) (y ∷ ys) zip all =
      All-cons Q x xs (more x y zip.0 (All-head P y ys all)) (zip_all P Q more xs ys zip.1 (All-tail P y ys all))
