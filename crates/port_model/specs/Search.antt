-- The entries that a take looks for.
use Rattle.std.specs.Prelude.{◌≡◌, ℕ, List, ◌∷◌, ◌++◌, length, All}
use Rattle.port_model.specs.declared.got.Got.{Got}

-- at `place` stands the first entry that is wanted; those before it are passed over
pub record IsFirst (Passed Wanted : Got → Type 0) (waiting : List Got) (place : ℕ) : Type 0 where
  pub before : List Got
  pub got : Got
  pub after : List Got
  pub was : waiting ≡ before ++ got ∷ after
  pub at : length before ≡ place
  pub passed : All Passed before
  pub wanted : Wanted got
