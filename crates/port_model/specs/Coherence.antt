-- What is so of each port: one timer of a key, which runs or whose signal waits once.
use Rattle.std.specs.Prelude.{◌≡◌, ◌+◌, ◌≤◌, ◌&&◌, Bool, List, length, filter}
use Rattle.port_model.specs.declared.got.Got.{Got}
use Rattle.port_model.specs.declared.values.timer_key.TimerKey.{TimerKey}
use Rattle.port_model.specs.declared.timer.ActiveTimer.{ActiveTimer}
use Rattle.port_model.specs.Timers.{same_key, is_set, is_signal_of}

-- the timer is the one of this key, and it is that and has not expired
abbrev pub has_key : TimerKey → ActiveTimer → Bool
has_key key timer = same_key timer.key key

abbrev pub runs_by : TimerKey → ActiveTimer → Bool
runs_by key timer = same_key timer.key key && is_set timer.phase

-- At most one active timer has the key. Where one has it, it runs and its signal doesn't wait, or it has expired and its signal
-- waits once. Where none has it, no signal of it waits.
pub record FitsKey (key : TimerKey) (waiting : List Got) (timers : List ActiveTimer) : Type 0 where
  pub one : length (filter (has_key key) timers) ≤ 1
  pub waits : length (filter (is_signal_of key) waiting) + length (filter (runs_by key) timers) ≡ length (filter (has_key key) timers)

-- What waits and the active timers belong together.
abbrev pub IsCoherent : List Got → List ActiveTimer → Type 0
IsCoherent waiting timers = (key : TimerKey) → FitsKey key waiting timers
