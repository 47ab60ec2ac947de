-- The names of scopes that are numbered, as a list of lists.
use Rattle.std.proofs.Common.{◌≡◌, ℕ, zero, suc, ◌++◌, List, [], ◌∷◌, get_or, refl}

-- one more scope, without names
pub get_or-none_more : {A : Type 0} (rows : List (List A)) (other : ℕ) →
    get_or (rows ++ [] ∷ []) other [] ≡ get_or rows other []
get_or-none_more [] zero = refl
get_or-none_more [] (suc other) = refl
get_or-none_more (row ∷ rows) zero = refl
get_or-none_more (row ∷ rows) (suc other) = get_or-none_more rows other
