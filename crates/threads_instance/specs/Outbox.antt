-- What an instance sends with: its senders, and what was sent (Z.102: output, timer).
use Rattle.std.specs.Prelude.{◌≡◌, ◌==◌, ◌≤◌, ◌⊎◌, ℕ, List, [], ◌∷◌, ◌++◌, if◌then◌else◌}
use Rattle.std.specs.List.{flat_map}
use Rattle.port_model.specs.declared.inbox.entry.Entry.TheVariants.{Timer}
use Rattle.port_model.specs.declared.inbox.entry.Fuse.{Fuse}
use Rattle.port_model.specs.declared.values.item.Item.{Item}
use Rattle.run_semantics.specs.World.{Sent}
use Rattle.threads_ports.specs.Peers.{PeersState, PutsTo, put_to}
use Rattle.threads_ports.specs.Rows.{EndsWith}

-- What a caller sees of it: the senders, and all signals that were sent to instances that have a port, in their order,
-- each after the number of its target.
pub record OutboxState : Type 0 where
  pub peers : PeersState
  pub sent : List (ℕ × Item)

-- the signals that were sent to each instance, in their order
abbrev pub sent_in : List (ℕ × Item) → Sent
sent_in sent number = flat_map (λ (signal : ℕ × Item). if signal.0 == number then signal.1 ∷ [] else []) sent

-- What was put into each port ends what was sent there. What was sent beside it was sent before there was a sender.
abbrev pub AreEnds : List (ℕ × Item) → PeersState → Type 0
AreEnds sent peers = (number : ℕ) → EndsWith (sent_in sent number) (put_to peers number)

-- A timer was set: its time has come, and its expiry is put into the port of its instance; or its fuse is kept.
abbrev pub Arms : ℕ → Fuse → List Fuse → List Fuse → PeersState → PeersState → Type 0
Arms time fuse kept later old new =
    ((fuse.due ≤ time) × PutsTo fuse.pid time (Timer fuse) old new × (later ≡ kept))
    ⊎ ((later ≡ kept ++ fuse ∷ []) × (new ≡ old))
