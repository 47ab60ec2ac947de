-- What a create does to the numbers that a thread has drawn, and to who lives (Z.102: create).
use Rattle.std.specs.Prelude.{◌≡◌, ◌<◌, ◌≤◌, ◌⊎◌, ℕ, List, [], ◌∷◌, ◌++◌, true}
use Rattle.threads_ports.specs.Instances.{with_one, with_reservation}
use Rattle.threads_ports.specs.Roster.{RosterValue, can_live_in, reserved_in, turned_in}
use Rattle.sdl_system.specs.declared.id.ProcessId.{ProcessId}

-- this number was drawn, and no other
pub record IsMade (number : ℕ) (old new : List ℕ) : Type 0 where
  pub drawn : new ≡ old ++ number ∷ []
  pub from_one : 0 < number
  pub within : number ≤ 1000

-- no number was drawn, or one, which nobody gets
abbrev pub IsSpent : List ℕ → List ℕ → Type 0
IsSpent old new = (new ≡ old) ⊎ ((number : ℕ) × (new ≡ old ++ number ∷ []))

-- a roster with one more reservation for this process
abbrev pub reserved_for : ProcessId → RosterValue → RosterValue
reserved_for process roster = reserved_in with_reservation roster process

-- The instance of this number lives since, by a reservation of its own, and the roster has its next version: if no
-- instance of this number lived before.
abbrev pub LivesSince : RosterValue → ProcessId → ℕ → RosterValue → Type 0
LivesSince old process number new =
    can_live_in (reserved_for process old).processes process number ≡ true
    → new ≡ turned_in (with_one number) (reserved_for process old) process
