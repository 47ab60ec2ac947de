-- What is left in a port at its end, as entries.
use Rattle.std.specs.Prelude.{◌≡◌, ℕ, true, List, [], ◌∷◌, map, All}
use Rattle.port_model.specs.declared.got.Got.{Got}
use Rattle.port_model.specs.declared.got.Got.TheVariants as got
use Rattle.port_model.specs.declared.timer.ActiveTimer.{ActiveTimer}
use Rattle.port_model.specs.Timers.{armed_for, is_active, Armed}
use Rattle.port_model.specs.declared.inbox.entry.Entry.{Entry}
use Rattle.port_model.specs.declared.inbox.entry.Entry.TheVariants.{Signal, Timer}

-- what an entry is while it waits in a port
abbrev pub got_of : Entry → Got
got_of (Signal item) = got.Signal item
got_of (Timer fuse) = got.Timer fuse.key

-- a timer's signal that waits there is that of an active timer
abbrev pub IsFused : List ActiveTimer → Got → Type 0
IsFused timers (got.Signal item) = Unit {0}
IsFused timers (got.Timer key) = is_active key timers ≡ true

-- an entry that was a timer's signal has the fuse of the one active timer of its key, as its set gave it
abbrev pub HasItsFuse : ℕ → List Armed → Entry → Type 0
HasItsFuse pid armed (Signal item) = Unit {0}
HasItsFuse pid armed (Timer fuse) =
    (fuse.pid ≡ pid) × (armed_for fuse.key armed ≡ record { key = fuse.key; arm = fuse.arm; due = fuse.due } ∷ [])

-- The entries are what waits, in its order, and each timer's signal has its fuse.
pub record AreWaiting (waiting : List Got) (pid : ℕ) (armed : List Armed) (entries : List Entry) : Type 0 where
  pub waits : map got_of entries ≡ waiting
  pub fused : All (HasItsFuse pid armed) entries
