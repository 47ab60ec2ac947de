-- Parts of lists, and places in two lists.
use Rattle.std.proofs.Common.{◌≡◌, ℕ, zero, suc, ◌+◌, ◌-◌, ◌<◌, ◌≤◌, List, [], ◌∷◌, ◌++◌, length, set, take, drop, slice_get, Option, None, Some, refl, sym, ◌∙◌, ap, arith, append_assoc}
use Rattle.std.specs.Option.{option_map_or}
use Rattle.std.specs.Prelude.{slice_range}
use Rattle.std.proofs.lemmas.List.{drop_at, length_push, length-drop, length-take}

-- at a place of one list that of another, if they are as long
pub get-both : {A B : Type 0} (xs : List A) (ys : List B) → length xs ≡ length ys → (k : ℕ) (x : A)
    → slice_get xs k ≡ Some x → (y : B) × (slice_get ys k ≡ Some y)
get-both [] ys same k x is = let no : ⊥ = cc in absurd no
get-both (a ∷ xs) [] same k x is = let no : ⊥ = omega (arith, same) in absurd no
get-both (a ∷ xs) (b ∷ ys) same zero x is = (b, refl)
get-both (a ∷ xs) (b ∷ ys) same (suc k) x is = get-both xs ys (omega (arith, same)) k x is

pub get-set_same : {A : Type 0} (xs : List A) (k : ℕ) (x y : A) → slice_get xs k ≡ Some x
    → slice_get (set xs k y) k ≡ Some y
get-set_same [] k x y is = let no : ⊥ = cc in absurd no
get-set_same (a ∷ xs) zero x y is = refl
get-set_same (a ∷ xs) (suc k) x y is = get-set_same xs k x y is

pub get-set_other : {A : Type 0} (xs : List A) (k j : ℕ) (y : A) → (j ≡ k → ⊥)
    → slice_get (set xs k y) j ≡ slice_get xs j
get-set_other [] k j y apart = refl
get-set_other (a ∷ xs) zero zero y apart = absurd (apart refl)
get-set_other (a ∷ xs) zero (suc j) y apart = refl
get-set_other (a ∷ xs) (suc k) zero y apart = refl
get-set_other (a ∷ xs) (suc k) (suc j) y apart = get-set_other xs k j y (λ e. apart (ap suc e))

-- the first element of a part, and the rest of it
pub range-more : {A : Type 0} (all front : List A) (x : A) (rest : List A) (from to : ℕ) → all ≡ front ++ x ∷ rest
    → length front ≡ from → from < to → slice_range all from to ≡ x ∷ slice_range all (from + 1) to
range-more all front x rest from to is at lt =
    let d : drop from all ≡ x ∷ rest = ap (drop from) is ∙ drop_at front (x ∷ rest) from at in
    let more : drop (from + 1) all ≡ rest =
    ap (drop (from + 1)) (is ∙ sym (append_assoc front (x ∷ []) rest))
    ∙ drop_at (front ++ x ∷ []) rest (from + 1) (length_push front x ∙ ap (λ n. n + 1) at) in
    let k : to - from ≡ suc (to - (from + 1)) = omega (arith, lt) in
    ap (λ n. take n (drop from all)) k ∙ ap (take (suc (to - (from + 1)))) d
    ∙ ap (λ l. x ∷ take (to - (from + 1)) l) (sym more)

-- a part that has elements is within the list
pub range-within : {A : Type 0} (all : List A) (from to : ℕ) → 0 < length (slice_range all from to)
    → (from < to) × (from < length all)
range-within all from to some =
    let t = length-take (to - from) (drop from all) in
    let d = length-drop from all in
    (omega (arith, some, t, d), omega (arith, some, t, d))

pub range-none : {A : Type 0} (all : List A) (from to : ℕ) → to ≤ from → slice_range all from to ≡ []
range-none all from to le =
    let k : to - from ≡ 0 = omega (arith, le) in ap (λ n. take n (drop from all)) k

pub range-length : {A : Type 0} (all : List A) (from to : ℕ) → from < to → to ≤ length all
    → 0 < length (slice_range all from to)
range-length all from to lt within =
    let t = length-take (to - from) (drop from all) in
    let d = length-drop from all in
    omega (arith, lt, within, t, d)

-- a value that is always the same
pub map_or-same : {A B : Type 0} (f : A → B) (one : B) → ((a : A) → f a ≡ one) → (o : Option A)
    → option_map_or f o one ≡ one
map_or-same f one is None = refl
map_or-same f one is (Some a) = is a
