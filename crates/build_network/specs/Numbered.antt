-- Lists whose elements are made of others and of their numbers.
use Rattle.std.specs.Prelude.{ℕ, ◌+◌, List, [], ◌∷◌, flat_map}

-- from this number on
abbrev pub numbered : {A B : Type 0} → (ℕ → A → B) → ℕ → List A → List B
numbered make number [] = []
numbered make number (first ∷ rest) = make number first ∷ numbered make (number + 1) rest

-- the lists of all, one after the other
abbrev pub joined : {A : Type 0} → List (List A) → List A
joined lists = flat_map (λ list. list) lists
