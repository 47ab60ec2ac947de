-- What ascends still does, with one number more and with one less.
use Rattle.std.proofs.Common.{◌≡◌, ℕ, suc, ◌<◌, true, not, eqb, ltb, List, [], ◌∷◌, ◌++◌, All, arith}
use Rattle.std.specs.List.{filter}
use Rattle.std.proofs.lemmas.Bool.{ltb-true}
use Rattle.std.proofs.lemmas.List.Elements.{All-append, All-cons, All-head, All-tail, All-weaker, filter_passes}
use Rattle.std.proofs.lemmas.List.Kept.{AllPairs-cons, AllPairs-filter}
use Rattle.threads_ports.specs.NumberSets.{IsAscending, with_number, without}

abbrev IsLess : ℕ → ℕ → Type 0
IsLess x y = x < y

first_below : (x : ℕ) (xs : List ℕ) → IsAscending (x ∷ xs) → All (IsLess x) xs
first_below x xs h k d lt = h 0 (suc k) d (omega arith) (omega arith)

rest_ascends : (x : ℕ) (xs : List ℕ) → IsAscending (x ∷ xs) → IsAscending xs
rest_ascends x xs h i j d lt bound = h (suc i) (suc j) d (omega arith) (omega arith)

joined : (xs ys : List ℕ) → IsAscending xs → IsAscending ys → All (λ x. All (IsLess x) ys) xs → IsAscending (xs ++ ys)
joined [] ys a b cross = b
joined (x ∷ xs) ys a b cross =
    AllPairs-cons IsLess x (xs ++ ys)
    (All-append (IsLess x) xs ys (first_below x xs a) (All-head (λ z. All (IsLess z) ys) x xs cross))
    (joined xs ys (rest_ascends x xs a) b (All-tail (λ z. All (IsLess z) ys) x xs cross))

-- those below a number, and those above it
below : (number : ℕ) (numbers : List ℕ) → All (λ x. x < number) (filter (λ x. ltb x number) numbers)
below number numbers =
    All-weaker (λ x. ltb x number ≡ true) (λ x. x < number) (λ x. ltb-true x number)
    (filter (λ x. ltb x number) numbers)
    (filter_passes (λ x. ltb x number) numbers)

above : (number : ℕ) (numbers : List ℕ) → All (IsLess number) (filter (λ x. ltb number x) numbers)
above number numbers =
    All-weaker (λ x. ltb number x ≡ true) (IsLess number) (λ x. ltb-true number x) (filter (λ x. ltb number x) numbers)
    (filter_passes (λ x. ltb number x) numbers)

further : (x number : ℕ) (ys : List ℕ) → x < number → All (IsLess number) ys → All (IsLess x) (number ∷ ys)
further x number ys lt all =
    All-cons (IsLess x) number ys lt (All-weaker (IsLess number) (IsLess x) (λ y up. omega arith) ys all)

pub ascending_with : (number : ℕ) (numbers : List ℕ) → IsAscending numbers → IsAscending (with_number number numbers)
ascending_with number numbers h =
    joined (filter (λ x. ltb x number) numbers) (number ∷ filter (λ x. ltb number x) numbers)
    (AllPairs-filter IsLess (λ x. ltb x number) numbers h)
    (AllPairs-cons IsLess number (filter (λ x. ltb number x) numbers) (above number numbers)
    (AllPairs-filter IsLess (λ x. ltb number x) numbers h))
    (All-weaker (λ x. x < number) (λ x. All (IsLess x) (number ∷ filter (λ y. ltb number y) numbers))
    (λ x lt. further x number (filter (λ y. ltb number y) numbers) lt (above number numbers))
    (filter (λ x. ltb x number) numbers) (below number numbers))

pub ascending_without : (number : ℕ) (numbers : List ℕ) → IsAscending numbers → IsAscending (without number numbers)
ascending_without number numbers h = AllPairs-filter IsLess (λ n. not (eqb n number)) numbers h
