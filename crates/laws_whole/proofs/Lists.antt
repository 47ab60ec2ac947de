-- Lists in parts, and lists that are put together anew.
use Rattle.std.proofs.Common.{◌≡◌, ◌∙◌, ◌⊎◌, ◌+◌, ◌++◌, ◌<◌, ◌≤◌, inl, inr, ap, append_assoc, arith, cond, refl, subst, sym, ℕ, zero, suc, Bool, All, IsPermutation, List, [], ◌∷◌, Some, count_by, length, map, slice_get, sum_by}
use Rattle.std.proofs.lemmas.List.Elements.{All-append, All-cons, All-head, All-nil, All-tail}
use Rattle.std.proofs.lemmas.List.Sorted.{IsPermutation-append_comm, IsPermutation-append_left, IsPermutation-append_right, IsPermutation-refl, IsPermutation-trans}
use Rattle.std.proofs.lemmas.List.Sums.{sum_by-append, sum_by-cons}
use Rattle.std.proofs.lemmas.Option.{none-some, same_Some}
use Rattle.std.specs.List.{AllZip, flat_map, range_with_len}

-- ---- what is so of each

module _ {X : Type 0} (P : X → Type 0) where
  -- what is so at each place of a list
  pub all_split : (xs : List X) → ((before : List X) (x : X) (after : List X) → xs ≡ before ++ x ∷ after → P x)
      → All P xs
  all_split [] at = All-nil P
  all_split (x ∷ xs) at =
      All-cons P x xs (at [] x xs refl)
      (all_split xs (λ before y after is. at (x ∷ before) y after (ap (λ (l : List X). x ∷ l) is)))

  -- what is so at each number
  pub all_numbered : (xs : List X) → ((k : ℕ) (x : X) → slice_get xs k ≡ Some x → P x) → All P xs
  all_numbered [] at = All-nil P
  all_numbered (x ∷ xs) at = All-cons P x xs (at zero x refl) (all_numbered xs (λ k y there. at (suc k) y there))

  pub all_first : (xs ys : List X) → All P (xs ++ ys) → All P xs
  all_first [] ys all = All-nil P
  all_first (x ∷ xs) ys all =
      All-cons P x xs (All-head P x (xs ++ ys) all) (all_first xs ys (All-tail P x (xs ++ ys) all))

  -- what is so of the element at a place
  pub all_at : (xs : List X) (k : ℕ) (x : X) → slice_get xs k ≡ Some x → All P xs → P x
  all_at [] k x there all = absurd (none-some x there)
  all_at (y ∷ ys) zero x there all = subst P (same_Some y x there) (All-head P y ys all)
  all_at (y ∷ ys) (suc k) x there all = all_at ys k x there (All-tail P y ys all)

  pub all_flat : {Y : Type 0} (f : Y → List X) (ys : List Y) → All (λ (y : Y). All P (f y)) ys → All P (flat_map f ys)
  all_flat f [] all = All-nil P
  all_flat {Y = Y} f (y ∷ ys) all =
      All-append P (f y) (flat_map f ys) (All-head (λ (y : Y). All P (f y)) y ys all)
      (all_flat f ys (All-tail (λ (y : Y). All P (f y)) y ys all))

module _ {X Y : Type 0} (R : X → Y → Type 0) where
  -- elements at the same place
  pub zip_at : (xs : List X) (ys : List Y) (k : ℕ) (y : Y) → AllZip R xs ys → slice_get ys k ≡ Some y
      → (x : X) × (slice_get xs k ≡ Some x) × R x y
  zip_at [] [] k y zipped there = absurd (none-some y there)
  zip_at [] (z ∷ ys) k y zipped there = absurd zipped
  zip_at (x ∷ xs) [] k y zipped there = absurd zipped
  zip_at (x ∷ xs) (z ∷ ys) zero y zipped there =
      (x, refl, subst (λ (v : Y). R x v) (same_Some z y there) zipped.0)
  zip_at (x ∷ xs) (z ∷ ys) (suc k) y zipped there = zip_at xs ys k y zipped.1 there

-- ---- parts

module _ {X : Type 0} where
  -- where an element stands in two lists, one after the other
  pub split_append : (xs ys before : List X) (z : X) (later : List X) → xs ++ ys ≡ before ++ z ∷ later
      → ((rest : List X) × (xs ≡ before ++ z ∷ rest) × (later ≡ rest ++ ys))
      ⊎ ((front : List X) × (ys ≡ front ++ z ∷ later) × (before ≡ xs ++ front))
  split_append [] ys before z later is = inr (before, is, refl)
  split_append (x ∷ xs) ys [] z later is =
      let head : x ≡ z = cc in
      let tail : xs ++ ys ≡ later = cc in
      inl (xs, ap (λ (v : X). v ∷ xs) head, sym tail)
  split_append (x ∷ xs) ys (b ∷ before) z later is =
      let head : x ≡ b = cc in
      let tail : xs ++ ys ≡ before ++ z ∷ later = cc in
      elim (split_append xs ys before z later tail) [
        | inl w ↦
            inl (w.0, ap (λ (l : List X). x ∷ l) w.1 ∙ ap (λ (v : X). v ∷ before ++ z ∷ w.0) head, w.2)
        | inr w ↦
            inr (w.0, w.1, ap (λ (v : X). v ∷ before) (sym head) ∙ ap (λ (l : List X). x ∷ l) w.2)
      ]

  pub at_front : (xs ys : List X) (k : ℕ) (x : X) → slice_get xs k ≡ Some x → slice_get (xs ++ ys) k ≡ Some x
  at_front [] ys k x there = absurd (none-some x there)
  at_front (y ∷ xs) ys zero x there = there
  at_front (y ∷ xs) ys (suc k) x there = at_front xs ys k x there

  pub at_place : (xs : List X) (k : ℕ) → k < length xs → (x : X) × (slice_get xs k ≡ Some x)
  at_place [] k within = let wrong : ⊥ = omega (arith, within) in absurd wrong
  at_place (x ∷ xs) zero within = (x, refl)
  at_place (x ∷ xs) (suc k) within = at_place xs k (omega (arith, within))

  pub in_one_of : (xs ys : List X) (k : ℕ) (x : X) → slice_get (xs ++ ys) k ≡ Some x
      → (slice_get xs k ≡ Some x) ⊎ ((m : ℕ) × (length xs ≤ k) × (slice_get ys m ≡ Some x))
  in_one_of [] ys k x there = inr (k, omega arith, there)
  in_one_of (y ∷ xs) ys zero x there = inl there
  in_one_of (y ∷ xs) ys (suc k) x there =
      elim (in_one_of xs ys k x there) [
        | inl w ↦ inl w
        | inr w ↦ inr (w.0, omega (arith, w.1), w.2)
      ]

  -- the list of what stands at these numbers
  pub map_numbers : {Z : Type 0} (g : X → Z) (h : ℕ → Z) (base : ℕ) (xs : List X)
      → ((k : ℕ) (x : X) → slice_get xs k ≡ Some x → g x ≡ h (base + k))
      → map g xs ≡ map h (range_with_len base (length xs))
  map_numbers g h base [] at = refl
  map_numbers {Z = Z} g h base (x ∷ xs) at =
      let first : base + 0 ≡ base = omega arith in
      let head : g x ≡ h base = at 0 x refl ∙ ap h first in
      ap (λ (z : Z). z ∷ map g xs) head
      ∙ ap (λ (l : List Z). h base ∷ l)
      (map_numbers g h (base + 1) xs
      (λ k y there. let next : base + suc k ≡ base + 1 + k = omega arith in at (suc k) y there ∙ ap h next))

  pub flat_maps : {Z : Type 0} (g : X → List Z) (xs : List X) → flat_map g xs ≡ flat_map (λ (l : List Z). l) (map g xs)
  flat_maps g [] = refl
  flat_maps {Z = Z} g (x ∷ xs) = ap (λ (l : List Z). g x ++ l) (flat_maps g xs)

  -- how many of a list of lists pass a test
  pub count_flat : {Z : Type 0} (test : Z → Bool) (g : X → List Z) (xs : List X)
      → count_by test (flat_map g xs) ≡ sum_by (λ (x : X). count_by test (g x)) xs
  count_flat test g [] = refl
  count_flat {Z = Z} test g (x ∷ xs) =
      sum_by-append (λ (z : Z). cond (test z) 1 0) (g x) (flat_map g xs)
      ∙ ap (λ n. count_by test (g x) + n) (count_flat test g xs)
      ∙ sym (sum_by-cons (λ (x : X). count_by test (g x)) x xs)

-- ---- two parts of each

module _ {X : Type 0} where
  middle : (a b c d : List X) → IsPermutation ((a ++ b) ++ (c ++ d)) ((a ++ c) ++ (b ++ d))
  middle a b c d =
      subst (λ (l : List X). IsPermutation l ((a ++ c) ++ (b ++ d)))
      (sym (append_assoc a b (c ++ d) ∙ ap (λ (l : List X). a ++ l) (sym (append_assoc b c d))))
      (subst (λ (l : List X). IsPermutation (a ++ ((b ++ c) ++ d)) l)
      (sym (append_assoc a c (b ++ d) ∙ ap (λ (l : List X). a ++ l) (sym (append_assoc c b d))))
      (IsPermutation-append_right a ((b ++ c) ++ d) ((c ++ b) ++ d)
      (IsPermutation-append_left d (b ++ c) (c ++ b) (IsPermutation-append_comm b c))))

  pub spread : (g h : ℕ → List X) (numbers : List ℕ)
      → IsPermutation (flat_map (λ n. g n ++ h n) numbers) (flat_map g numbers ++ flat_map h numbers)
  spread g h [] = IsPermutation-refl []
  spread g h (n ∷ rest) =
      let parts : List X = flat_map (λ n. g n ++ h n) rest in
      let one : List X = flat_map g rest in
      let other : List X = flat_map h rest in
      IsPermutation-trans ((g n ++ h n) ++ parts) ((g n ++ h n) ++ (one ++ other)) ((g n ++ one) ++ (h n ++ other))
      (IsPermutation-append_right (g n ++ h n) parts (one ++ other) (spread g h rest))
      (middle (g n) (h n) one other)
