-- What a loop over a list keeps.
use Rattle.std.proofs.Common.{◌≡◌, ◌∙◌, ◌<◌, ◌≤◌, ◌+◌, ap, append-nil, append_assoc, arith, drop, get_or, length, refl, subst, sym, take, ℕ, zero, suc, List, [], ◌∷◌, ◌++◌, All}
use Rattle.std.specs.Prelude.{Contains, map, slice_set}
use Rattle.std.proofs.lemmas.List.{at_drop_more, take_all, take_more}
use Rattle.std.proofs.lemmas.List.Elements.{All-contains_itself, All-head, All-more, All-nil, All-cons, All-same, All-tail}

module _ {X : Type 0} (xs : List X) (i : ℕ) (x : X) (within : i < length xs) (is : x ≡ get_or xs i x) where
  -- the item is the first of what is left, and the last of what is done
  pub rest_is : drop i xs ≡ x ∷ drop (i + 1) xs
  rest_is = at_drop_more (λ (l : List X). l) xs i x within ∙ ap (λ (y : X). y ∷ drop (i + 1) xs) (sym is)

  pub front_is : take (i + 1) xs ≡ take i xs ++ x ∷ []
  front_is = take_more xs i x within ∙ ap (λ (y : X). take i xs ++ y ∷ []) (sym is)

module _ {X : Type 0} (P : X → Type 0) (xs : List X) (i : ℕ) where
  -- it holds of one item more, and in the end of all
  pub all_step : (x : X) → i < length xs → x ≡ get_or xs i x → All P (take i xs) → P x → All P (take (i + 1) xs)
  all_step x within is all here = All-more P xs i x within all (subst P is here)

  pub all_done : length xs ≤ i → All P (take i xs) → All P xs
  all_done past all = All-same P xs (take i xs) (sym (take_all i xs past)) all

-- what holds of all results
pub all_unmap : {X Y : Type 0} (f : X → Y) (P : Y → Type 0) (xs : List X) → All P (map f xs) → All (λ x. P (f x)) xs
all_unmap f P [] all = All-nil (λ x. P (f x))
all_unmap f P (x ∷ xs) all =
    All-cons (λ x. P (f x)) x xs (All-head P (f x) (map f xs) all) (all_unmap f P xs (All-tail P (f x) (map f xs) all))

-- each result is one of the results
pub all_mapped : {X Y : Type 0} (f : X → Y) (xs : List X) → All (λ x. Contains (map f xs) (f x)) xs
all_mapped f xs = all_unmap f (Contains (map f xs)) xs (All-contains_itself (map f xs))

-- what is changed and put back is the same
pub set_back : {X : Type 0} (xs : List X) (i : ℕ) (y d : X) → i < length xs
    → slice_set (slice_set xs i y) i (get_or xs i d) ≡ xs
set_back [] i y d within = let wrong : ⊥ = omega (arith, within) in absurd wrong
set_back (z ∷ zs) zero y d within = refl
set_back (z ∷ zs) (suc i) y d within = ap (λ l. z ∷ l) (set_back zs i y d (omega (arith, within)))

-- ---- a list of which the first item is taken, turn by turn

-- those that were taken, and those that are left
pub done_more : {X : Type 0} (done later : List X) (x : X) (all left : List X) → all ≡ done ++ left → left ≡ x ∷ later
    → all ≡ (done ++ x ∷ []) ++ later
done_more done later x all left is next = is ∙ ap (λ l. done ++ l) next ∙ sym (append_assoc done (x ∷ []) later)

pub done_all : {X : Type 0} (done all left : List X) → all ≡ done ++ left → left ≡ [] → done ≡ all
done_all done all left is none = sym (append-nil done) ∙ ap (λ l. done ++ l) (sym none) ∙ sym is
