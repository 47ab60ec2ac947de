-- Numbers of instances whose records may go on.
use Rattle.std.specs.Prelude.{◌≡◌, ◌⊎◌, ◌+◌, ℕ, Bool, true, List, [], ◌∷◌, ◌++◌, Contains, Some, slice_get}

-- there are so many numbers, and these are to go on, one after the other
pub record WorkState : Type 0 where
  pub numbers : ℕ
  pub waking : List ℕ

-- the number stands behind all others, or nothing has changed
abbrev pub IsWoken : ℕ → List ℕ → List ℕ → Type 0
IsWoken number old new = (new ≡ old) ⊎ (new ≡ old ++ number ∷ [])

-- what is known to be there is there
abbrev pub AreQueued : List Bool → List ℕ → Type 0
AreQueued queued waking = (place : ℕ) → slice_get queued place ≡ Some true → Contains waking (place + 1)
