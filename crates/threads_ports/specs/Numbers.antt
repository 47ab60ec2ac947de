-- Lists in which no number stands twice, and those that have 1 to n.
use Rattle.std.specs.Prelude.{◌≡◌, ℕ, zero, suc, ◌≤◌, nat_eq, List, [], ◌∷◌, ◌++◌, count_by}

-- how often x stands in the list
abbrev pub times : ℕ → List ℕ → ℕ
times x xs = count_by (λ y. nat_eq y x) xs

-- 1, 2, .. n
abbrev pub one_to : ℕ → List ℕ
one_to zero = []
one_to (suc n) = one_to n ++ suc n ∷ []

-- no number stands twice in the list
abbrev pub EachOnce : List ℕ → Type 0
EachOnce xs = (x : ℕ) → times x xs ≤ 1

-- the list has 1, 2, .. n, each once, in any order, and nothing else
abbrev pub AreOneTo : ℕ → List ℕ → Type 0
AreOneTo n xs = (x : ℕ) → times x xs ≡ times x (one_to n)
