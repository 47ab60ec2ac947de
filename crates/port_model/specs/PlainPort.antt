-- What callers see of the port of one thread.
use Rattle.std.specs.Prelude.{ℕ, ◌≤◌, List, All}
use Rattle.port_model.specs.declared.taken.Taken.{Taken}
use Rattle.port_model.specs.declared.taken.Taken.TheVariants.{Consumed, Discarded, Nothing}
use Rattle.port_model.specs.Port.{PortState}
use Rattle.port_model.specs.Timers.{armed_after, Armed}

-- what a caller sees of a `PlainPort`: the port, what the sets of its active timers gave, and for how many entries there is
-- room already
pub record PlainPortValue : Type 0 where
  pub state : PortState
  pub armed : List Armed
  pub room : ℕ

-- the numbers of the sets are at most this one
abbrev pub AreUpTo : ℕ → List Armed → Type 0
AreUpTo sets armed = All (λ (a : Armed). a.arm ≤ sets) armed

-- what the sets gave, after a take
abbrev pub armed_left : Taken → List Armed → List Armed
armed_left (Consumed got) armed = armed_after got armed
armed_left (Discarded got) armed = armed_after got armed
armed_left Nothing armed = armed
