-- The input port of the standard, and its steps.
use Rattle.std.specs.Prelude.{ℕ, ◌+◌, nat_le, ◌&&◌, Bool, true, false, not, List, [], ◌∷◌, ◌++◌, if◌then◌else◌}
use Rattle.port_model.specs.declared.values.item.Item.{Item}
use Rattle.port_model.specs.declared.got.Got.{Got}
use Rattle.port_model.specs.declared.got.Got.TheVariants.{Signal, Timer}
use Rattle.port_model.specs.declared.values.timer_key.TimerKey.{TimerKey}
use Rattle.port_model.specs.declared.timer.ActiveTimer.{ActiveTimer}
use Rattle.port_model.specs.declared.timer.Phase.TheVariants.{Running}
use Rattle.port_model.specs.Timers.{is_running, with_waiting, without_key, without_signal}

-- An input port (Z.101, agents; Z.102, save and timers): what waits, in the order in which it came; the active timers, a map
-- by key, written as a list; how many sets there were; and whether its instance lives.
pub record PortState : Type 0 where
  pub waiting : List Got
  pub timers : List ActiveTimer
  pub sets : ℕ
  pub alive : Bool

-- the port of an instance that has just been made
abbrev pub empty_port : PortState
empty_port = record { waiting = []; timers = []; sets = 0; alive = true }

-- Put: a signal goes to the end of what waits. A stopped port drops it.
abbrev pub put_into : PortState → Item → PortState
put_into port item = if port.alive then record port { waiting = port.waiting ++ Signal item ∷ [] } else port

-- Expire: where the timer is Running by that very set and its time has come, its signal goes to the end of what waits.
abbrev pub expires : PortState → TimerKey → ℕ → ℕ → ℕ → Bool
expires port key arm due at = nat_le due at && is_running key arm due port.timers

abbrev pub expire_in : PortState → TimerKey → ℕ → ℕ → ℕ → PortState
expire_in port key arm due at =
    if expires port key arm due at
    then record port { waiting = port.waiting ++ Timer key ∷ []; timers = with_waiting key arm port.timers }
    else port

-- Remove: neither the timer nor its signal is left, and all else stays in its order. A reset is this.
abbrev pub remove_from : PortState → TimerKey → PortState
remove_from port key = record port { waiting = without_signal key port.waiting; timers = without_key key port.timers }

-- Set: a reset, and then the timer is Running by the next set.
abbrev pub set_in : PortState → TimerKey → ℕ → PortState
set_in port key due = record (remove_from port key) {
  timers = without_key key port.timers ++ record { key = key; phase = Running (port.sets + 1) due } ∷ [];
  sets = port.sets + 1;
}

-- Stop: nothing waits and no timer is active from then on.
abbrev pub stopped : PortState → PortState
stopped port = record port { waiting = []; timers = []; alive = false }

-- Whether a set is spent: it was made, and no timer is Running by it.
abbrev pub is_spent : PortState → TimerKey → ℕ → ℕ → Bool
is_spent port key arm due = nat_le arm port.sets && not (is_running key arm due port.timers)
