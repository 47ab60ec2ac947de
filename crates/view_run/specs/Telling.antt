-- What is told next of an instance, as far as others are concerned.
use Rattle.std.specs.Prelude.{◌≡◌, ◌⊎◌, ℕ, nat_le, Bool, true, false, ◌&&◌, not, None, Option, Some, if◌then◌else◌}
use Rattle.run_order.specs.Kept.{IsThere}
use Rattle.run_order.specs.OrderState.{OrderState}
use Rattle.run_order.specs.declared.pending.Pending.{Pending}
use Rattle.run_order.specs.declared.pending.Pending.TheVariants as pending
use Rattle.view_run.specs.declared.replay.telling.Access.{Access}
use Rattle.view_run.specs.declared.replay.telling.Access.TheVariants as access
use Rattle.view_run.specs.declared.replay.telling.Next.{Next}
use Rattle.view_run.specs.declared.replay.telling.Next.TheVariants as next
use Rattle.run_tracks.specs.PortTrack.{PortState, is_hindered, is_turn}
use Rattle.run_tracks.specs.Tracks.{TracksState, at_number, loses}
use Rattle.sdl_system.specs.declared.route.Dest.{Dest}
use Rattle.sdl_system.specs.declared.route.Dest.TheVariants as to
use Rattle.sdl_system.specs.declared.route.Target.{Target}
use Rattle.sdl_system.specs.declared.route.Target.TheVariants.{Instance}

abbrev pub is_pid : Dest → Bool
is_pid (to.Pid pid) = true
is_pid other = false

-- what an event does to others; a timer whose time has come expires at once
abbrev pub next_kind : Pending → ℕ → Next
next_kind (pending.Send to target item) clock = next.Send (is_pid to) target
next_kind (pending.Arm fuse) clock = if nat_le fuse.due clock then next.Expire else next.Inside
next_kind (pending.Create process number parent values) clock = next.Create number
next_kind (pending.Full process) clock = next.Full
next_kind pending.End clock = next.End
next_kind pending.Inside clock = next.Inside

-- ---- what puts

-- it is the turn of the instance of this number in the port of a receiver
abbrev pub puts_by : ℕ → Option PortState → Bool
puts_by number None = false
puts_by number (Some p) = not (is_hindered p) && is_turn number p

abbrev pub may_put : TracksState → ℕ → ℕ → Bool
may_put s number receiver = puts_by number (at_number s.ports receiver)

-- Where the receiver is there, it is the sender's turn, or another's. Where it isn't, the signal is to be lost, or
-- comes later. What goes to nobody, or is of nobody who has a record, goes into no port.
abbrev pub IsAccess : OrderState → TracksState → ℕ → Target → Access → Type 0
IsAccess g s number target (access.Turn receiver) =
    (target ≡ Instance receiver) × IsThere g receiver × (may_put s number receiver ≡ true)
IsAccess g s number target (access.Lost receiver) =
    (target ≡ Instance receiver) × (IsThere g receiver → ⊥) × (loses number receiver s ≡ true)
IsAccess g s number target access.Hindered =
    (receiver : ℕ) × (target ≡ Instance receiver)
    × (IsThere g receiver → may_put s number receiver ≡ false)
    × ((IsThere g receiver → ⊥) → loses number receiver s ≡ false)
IsAccess g s number target access.Free =
    (receiver : ℕ) → target ≡ Instance receiver
    → (at_number s.records number ≡ None) ⊎ (at_number s.ports receiver ≡ None)
