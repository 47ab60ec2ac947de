-- What waits in a port, as the port keeps it.
use Rattle.std.specs.Prelude.{◌≡◌, ◌≢◌, ℕ, List, [], ◌∷◌, ◌++◌, All}
use Rattle.port_model.specs.declared.selection.Class.{Class}
use Rattle.port_model.specs.declared.selection.Class.TheVariants as class
use Rattle.port_model.specs.declared.got.Got.{Got}
use Rattle.port_model.specs.Take.{HasClass, IsOrdinary}

-- What waits in a port, as the port keeps it: what it has passed over, the rest, and for how many entries more there is room.
pub record BacklogValue : Type 0 where
  pub passed : List Got
  pub rest : List Got
  pub room : ℕ

-- all that waits, in the order in which it came
abbrev pub waiting_in : BacklogValue → List Got
waiting_in backlog = backlog.passed ++ backlog.rest

-- Just the first entry is to be taken, which has this class: nothing was passed over, no name of what waits is that of a
-- priority input, and no save names it.
pub record IsHead (classes : List Class) (backlog : BacklogValue) (c : Class) : Type 0 where
  pub got : Got
  pub after : List Got
  pub passed : backlog.passed ≡ []
  pub rest : backlog.rest ≡ got ∷ after
  pub has : HasClass c classes got
  pub unsaved : c ≢ class.Saved
  pub ordinary : All (IsOrdinary classes) backlog.rest

-- the first entry of the rest is passed over
pub record Passes (old new : BacklogValue) : Type 0 where
  pub got : Got
  pub rest : old.rest ≡ got ∷ new.rest
  pub passed : new.passed ≡ old.passed ++ got ∷ []

-- an entry is taken out, and none of those before it is wanted
pub record Leaves (Passed : Got → Type 0) (old : List Got) (got : Got) (new : List Got) : Type 0 where
  pub before : List Got
  pub after : List Got
  pub was : old ≡ before ++ got ∷ after
  pub passed : All Passed before
  pub now : new ≡ before ++ after
