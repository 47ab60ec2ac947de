-- What the environment puts into ports, by what its senders have put before and after (Z.101: input port).
use Rattle.std.specs.Prelude.{◌≡◌, ◌==◌, ◌⊎◌, ℕ, true, false, [], ◌∷◌, ◌++◌, Option, None, Some, if◌then◌else◌}
use Rattle.port_model.specs.declared.inbox.entry.Entry.TheVariants.{Timer}
use Rattle.port_model.specs.declared.inbox.entry.Fuse.{Fuse}
use Rattle.input_port.specs.QueueEnds.{SenderState}
use Rattle.port_model.specs.declared.values.item.Item.{Item}
use Rattle.run_semantics.specs.World.{has_port}
use Rattle.sdl_system.specs.declared.route.Target.{Target}
use Rattle.sdl_system.specs.declared.route.Target.TheVariants.{Instance}
use Rattle.threads_ports.specs.Peers.{PeersState, PutsTo, is_known, put_by, put_to}

-- senders go into ports alone
abbrev pub HavePorts : PeersState → Type 0
HavePorts peers = (number : ℕ) → is_known peers number ≡ true → has_port number ≡ true

-- ---- signals

-- into each port just as much was put
abbrev pub ArePutAlike : PeersState → PeersState → Type 0
ArePutAlike old new = (number : ℕ) → put_to new number ≡ put_to old number

-- A signal that was sent to this target is put into the port of that instance, which is woken.
pub record IsPutTo (target : Target) (item : Item) (number : ℕ) (old new : PeersState) : Type 0 where
  pub target_is : target ≡ Instance number
  pub put : (n : ℕ) → put_to new n ≡ put_to old n ++ (if number == n then item ∷ [] else [])

-- It is gone: nothing was put, and no instance is meant, or one into whose port there was no sender.
pub record IsGone (target : Target) (old new : PeersState) : Type 0 where
  pub unknown : (number : ℕ) → target ≡ Instance number → is_known old number ≡ false
  pub same : ArePutAlike old new

abbrev pub IsSent : Target → Item → Option ℕ → PeersState → PeersState → Type 0
IsSent target item None old new = IsGone target old new
IsSent target item (Some number) old new = IsPutTo target item number old new

-- ---- expiries

-- there is a sender into the port of this number: as it was, or one that came last and has put nothing
abbrev pub IsOpened : ℕ → PeersState → PeersState → Type 0
IsOpened number old new =
    (new ≡ old) ⊎ ((sender : SenderState) × (put_by sender ≡ []) × (new ≡ old ++ (number, sender) ∷ []))

-- The expiry of a timer is put into the port of its instance, at this time, by the sender that was there, or by a new
-- one.
pub record Expires (fuse : Fuse) (at : ℕ) (old new : PeersState) : Type 0 where
  pub between : PeersState
  pub opened : IsOpened fuse.pid old between
  pub puts : PutsTo fuse.pid at (Timer fuse) between new
