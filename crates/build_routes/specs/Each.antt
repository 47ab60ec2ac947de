-- What holds of an element of a list and its number.
use Rattle.std.specs.Prelude.{◌≡◌, ℕ, ◌<◌, List, Some, slice_get}

-- of some element
abbrev pub ForSome : {X : Type 0} → List X → (ℕ → X → Type 0) → Type 0
ForSome {X} xs P = (n : ℕ) × (x : X) × (slice_get xs n ≡ Some x) × P n x

-- of some among the first so many
abbrev pub ForSomeBelow : {X : Type 0} → List X → ℕ → (ℕ → X → Type 0) → Type 0
ForSomeBelow {X} xs count P = (n : ℕ) × (x : X) × (n < count) × (slice_get xs n ≡ Some x) × P n x
