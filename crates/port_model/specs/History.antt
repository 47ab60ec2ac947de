-- Legal histories of a port.
use Rattle.std.specs.Prelude.{◌≡◌, ℕ, ◌+◌, true, List, [], ◌∷◌}
use Rattle.port_model.specs.declared.values.item.Item.{Item}
use Rattle.port_model.specs.declared.values.timer_key.TimerKey.{TimerKey}
use Rattle.port_model.specs.declared.selection.Class.{Class}
use Rattle.port_model.specs.declared.taken.Taken.{Taken}
use Rattle.port_model.specs.Port.{PortState, put_into, expire_in, remove_from, set_in, stopped}
use Rattle.port_model.specs.Take.{Takes}

-- What happens to a port. Put and Expire come from outside, Expire with the key, the set, the due time and the time of the
-- expiry. The others are calls of the port's owner: Take with its selection and reply, Set with the due time and its reply.
pub data PortEvent : Type 0 where
  Put : Item → PortEvent
  Expire : TimerKey → ℕ → ℕ → ℕ → PortEvent
  Take : List Class → Taken → PortEvent
  Set : TimerKey → ℕ → ℕ → PortEvent
  Reset : TimerKey → PortEvent
  Stop : PortEvent

-- one event leads from a port to a port; a stopped port has no owner's call any more
abbrev pub PortStep : PortState → PortEvent → PortState → Type 0
PortStep old (Put item) new = new ≡ put_into old item
PortStep old (Expire key arm due at) new = new ≡ expire_in old key arm due at
PortStep old (Take classes taken) new = (old.alive ≡ true) × Takes classes old taken new
PortStep old (Set key due arm) new = (old.alive ≡ true) × (arm ≡ old.sets + 1) × (new ≡ set_in old key due)
PortStep old (Reset key) new = (old.alive ≡ true) × (new ≡ remove_from old key)
PortStep old Stop new = (old.alive ≡ true) × (new ≡ stopped old)

-- a legal history: the events lead, one after the other, from one port to the other
abbrev pub IsLegal : PortState → List PortEvent → PortState → Type 0
IsLegal old [] new = new ≡ old
IsLegal old (event ∷ events) new = (mid : PortState) × PortStep old event mid × IsLegal mid events new
