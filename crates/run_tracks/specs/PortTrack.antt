-- How far the history of a port is told.
use Rattle.std.specs.Prelude.{◌==◌, ◌-◌, ◌+◌, ◌^◌, ℕ, nat_le, Bool, false, List, [], ◌∷◌, None, Option, Some, drop, if◌then◌else◌, min, slice_get, slice_index}
use Rattle.run_tracks.specs.ByNumber.{counted, with_at}
use Rattle.run_tracks.specs.declared.looks.Look.{Look}
use Rattle.run_tracks.specs.declared.port_track.TheConstants.{MOST_SENDERS}

-- The puts that aren't told, by the numbers of their senders, and how many are told. By the number of a sender, the
-- number of its instance. The looks of the owner, and how many of them are made. How many steps the owner has made, and
-- how many signals are lost before it is there.
pub record PortState : Type 0 where
  pub puts : List ℕ
  pub told : ℕ
  pub senders : List ℕ
  pub looks : List Look
  pub looked : ℕ
  pub steps : ℕ
  pub lost : ℕ

abbrev pub with_known : ℕ → ℕ → PortState → PortState
with_known number instance p =
    if nat_le number MOST_SENDERS then record p { senders = with_at p.senders number instance } else p

-- ---- puts

-- whose turn it is to put
abbrev pub instance_first : List ℕ → List ℕ → Option ℕ
instance_first [] senders = None
instance_first (next ∷ later) senders = Some (slice_index senders next)

abbrev pub turn_in : PortState → Option ℕ
turn_in p = instance_first p.puts p.senders

-- it is the turn of the instance of this number
abbrev pub is_turn_of : ℕ → Option ℕ → Bool
is_turn_of number None = false
is_turn_of number (Some next) = next == number

abbrev pub is_turn : ℕ → PortState → Bool
is_turn number p = is_turn_of number (turn_in p)

abbrev pub after_put : PortState → PortState
after_put p = record p { puts = drop 1 p.puts; told = counted p.told }

-- ---- looks

-- as many are put as the owner had drawn by a look
abbrev pub comes_now : Option Look → ℕ → Bool
comes_now None told = false
comes_now (Some look) told = nat_le look.drawn told

-- no more is to be put before the next look
abbrev pub is_hindered : PortState → Bool
is_hindered p = comes_now (slice_get p.looks p.looked) p.told

-- a look belongs to the next step
abbrev pub is_step : Option Look → ℕ → Bool
is_step None step = false
is_step (Some look) step = look.step == step

abbrev pub is_look : PortState → Bool
is_look p = is_step (slice_get p.looks p.looked) p.steps

abbrev pub next_look : PortState → PortState
next_look p = record p { looked = min (p.looked + 1) (2 ^ 64 - 1) }

abbrev pub after_step : PortState → PortState
after_step p = record (if is_look p then next_look p else p) { steps = counted p.steps }

-- ---- what is lost

abbrev pub with_loss : PortState → PortState
with_loss p = record p { lost = counted p.lost }

abbrev pub without_loss : PortState → PortState
without_loss p = record p { lost = p.lost - 1 }
