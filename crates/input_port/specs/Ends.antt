-- What callers see of an owner after its stop, and of an inbox over a shared port.
use Rattle.std.specs.Prelude.{ℕ, List}
use Rattle.port_model.specs.declared.inbox.entry.Entry.{Entry}
use Rattle.port_model.specs.Ends.{OwnerState}

-- what a caller sees of an owner after its stop: the owner, the entries that it has drawn since, which had no effect, and how
-- many signals it had drawn before
pub record RetiredState : Type 0 where
  pub owner : OwnerState
  pub since : List Entry
  pub before : ℕ

-- what a caller sees of an inbox over a shared port: the owner, and the entries that it has drawn since a stop
pub record HeldState : Type 0 where
  pub owner : OwnerState
  pub since : List Entry
