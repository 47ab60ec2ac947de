-- Sets of numbers, as ascending lists.
use Rattle.std.specs.Prelude.{◌==◌, ◌<◌, ℕ, Bool, not, nat_lt, List, ◌∷◌, ◌++◌, filter}
use Rattle.std.specs.List.{list_any, AllPairs}

-- each is less than those behind it
abbrev pub IsAscending : List ℕ → Type 0
IsAscending numbers = AllPairs (λ (x : ℕ) (y : ℕ). x < y) numbers

-- whether the number is one of them
abbrev pub is_in : ℕ → List ℕ → Bool
is_in number numbers = list_any (λ n. n == number) numbers

-- with one number more, in its place: those below it, it, those above it
abbrev pub with_number : ℕ → List ℕ → List ℕ
with_number number numbers = filter (λ n. nat_lt n number) numbers ++ number ∷ filter (λ n. nat_lt number n) numbers

-- all but one
abbrev pub without : ℕ → List ℕ → List ℕ
without number numbers = filter (λ n. not (n == number)) numbers
