-- Active timers: keys, due times, and what their sets gave.
use Rattle.std.specs.Prelude.{◌≡◌, ℕ, ◌≤◌, min, ◌&&◌, Bool, true, false, not, List, [], ◌∷◌, ◌++◌, Option, Some, None, filter, map, All, Contains, MatchOption, if◌then◌else◌}
use Rattle.std.specs.List.{list_any, filter_map}
use Rattle.std.specs.declared.cmp.Ordering.{Ordering}
use Rattle.port_model.specs.declared.got.Got.{Got}
use Rattle.port_model.specs.declared.got.Got.TheVariants.{Signal, Timer}
use Rattle.port_model.specs.declared.values.timer_key.TimerKey.{TimerKey}
use Rattle.port_model.specs.declared.timer.ActiveTimer.{ActiveTimer}
use Rattle.port_model.specs.declared.timer.Phase.{Phase}
use Rattle.port_model.specs.declared.timer.Phase.TheVariants.{Running, Waiting}
use Rattle.port_model.specs.contracts.values.timer_key.TimerKeyPartialEq.TheImpl as keys
use Rattle.port_model.specs.contracts.values.timer_key.TimerKeyOrd.TheImpl as key_ordering
use Rattle.port_model.specs.contracts.timer.PhasePartialEq.TheImpl as phases

-- whether two keys are the same, by name and values, or two phases: what `==` answers
abbrev pub same_key : TimerKey → TimerKey → Bool
same_key = keys.ghosts.eq

abbrev pub same_phase : Phase → Phase → Bool
same_phase = phases.ghosts.eq

-- the order in which a table keeps keys: what `cmp` answers
abbrev pub key_order : TimerKey → TimerKey → Ordering
key_order = key_ordering.ghosts.cmp

-- whether the map has this key
abbrev pub is_active : TimerKey → List ActiveTimer → Bool
is_active key timers = list_any (λ timer. same_key timer.key key) timers

-- whether the map has this key as Running, by this set and for this time
abbrev pub is_running : TimerKey → ℕ → ℕ → List ActiveTimer → Bool
is_running key arm due timers = list_any (λ timer. same_key timer.key key && same_phase timer.phase (Running arm due)) timers

-- the timer is set and has not expired
abbrev pub is_set : Phase → Bool
is_set (Running arm due) = true
is_set (Waiting arm) = false

-- the map without this key
abbrev pub without_key : TimerKey → List ActiveTimer → List ActiveTimer
without_key key timers = filter (λ timer. not (same_key timer.key key)) timers

-- the map with this key as Running, by this set and until this time
abbrev pub with_running : TimerKey → ℕ → ℕ → List ActiveTimer → List ActiveTimer
with_running key arm due timers = without_key key timers ++ record { key = key; phase = Running arm due } ∷ []

-- the map with this key as Waiting
abbrev pub waiting_timer : TimerKey → ℕ → ActiveTimer → ActiveTimer
waiting_timer key arm timer = if same_key timer.key key then record timer { phase = Waiting arm } else timer

abbrev pub with_waiting : TimerKey → ℕ → List ActiveTimer → List ActiveTimer
with_waiting key arm timers = map (waiting_timer key arm) timers

-- the map after an entry was taken: a timer whose signal is taken is active no longer
abbrev pub after_taking : Got → List ActiveTimer → List ActiveTimer
after_taking (Signal item) timers = timers
after_taking (Timer key) timers = without_key key timers

-- the entry is the signal of the timer with this key
abbrev pub is_signal_of : TimerKey → Got → Bool
is_signal_of key (Signal item) = false
is_signal_of key (Timer expired) = same_key expired key

-- what waits without that signal
abbrev pub without_signal : TimerKey → List Got → List Got
without_signal key waiting = filter (λ got. not (is_signal_of key got)) waiting

-- what the set of an active timer gave, which a port keeps also while the timer's signal waits
pub record Armed : Type 0 where
  pub key : TimerKey
  pub arm : ℕ
  pub due : ℕ

abbrev pub is_armed : TimerKey → Armed → Bool
is_armed key armed = same_key armed.key key

-- of the active timers the one with this key, and all others
abbrev pub armed_for : TimerKey → List Armed → List Armed
armed_for key armed = filter (is_armed key) armed

abbrev pub without_armed : TimerKey → List Armed → List Armed
without_armed key armed = filter (λ a. not (is_armed key a)) armed

-- with what this set of the timer gave
abbrev pub with_armed : TimerKey → ℕ → ℕ → List Armed → List Armed
with_armed key arm due armed = without_armed key armed ++ record { key = key; arm = arm; due = due } ∷ []

-- what is left of it after an entry was taken
abbrev pub armed_after : Got → List Armed → List Armed
armed_after (Signal item) armed = armed
armed_after (Timer key) armed = without_armed key armed

-- whether the signal of the timer with this key waits
abbrev pub waits : TimerKey → List ActiveTimer → Bool
waits key timers = list_any (λ timer. same_key timer.key key && not (is_set timer.phase)) timers

-- the due time of a timer that is Running
abbrev pub due_of : Phase → Option ℕ
due_of (Running arm due) = Some due
due_of (Waiting arm) = None

abbrev pub due_times : List ActiveTimer → List ℕ
due_times timers = filter_map (λ timer. due_of timer.phase) timers

-- the least of some times, if there is one
abbrev pub IsLeast : List ℕ → Option ℕ → Type 0
IsLeast times least = MatchOption least (times ≡ []) (λ time. Contains times time × All (λ other. time ≤ other) times)

-- the lesser of two times, where there are any
abbrev pub earlier : Option ℕ → Option ℕ → Option ℕ
earlier None other = other
earlier (Some time) None = Some time
earlier (Some time) (Some other) = Some (min time other)
