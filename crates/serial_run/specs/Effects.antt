-- The acts of a step so far.
use Rattle.std.specs.Prelude.{◌≡◌, ℕ, Bool, true, List, [], ◌∷◌, Option, None, Some, nat_lt}
use Rattle.serial_run.specs.declared.world.effect.Effect.{Effect}

-- the acts in their order, and whether one more takes no memory
pub record ActList : Type 0 where
  pub items : List Effect
  pub has_room : Bool

-- the first, and those behind it
abbrev pub listed : Option Effect → List Effect → List Effect
listed None rest = rest
listed (Some first) rest = first ∷ rest

-- without a first there is none behind it
abbrev pub IsFirst : Option Effect → List Effect → Type 0
IsFirst None rest = rest ≡ []
IsFirst (Some first) rest = Unit {0}

-- there is always room for the first; for others where so many of a capacity are not all
abbrev pub is_room : Option Effect → ℕ → ℕ → Bool
is_room None others capacity = true
is_room (Some first) others capacity = nat_lt others capacity
