-- The times for which timers are set, looked at one event after the other (Z.102: timer).
use Rattle.std.specs.Prelude.{◌≡◌, ℕ, List, None, Option, if◌then◌else◌}
use Rattle.std.specs.BTreeMap.{is_at}
use Rattle.std.specs.Map.{lookup}
use Rattle.port_model.specs.Timers.{key_order, same_key}
use Rattle.port_model.specs.declared.got.Got.{Got}
use Rattle.port_model.specs.declared.values.timer_key.TimerKey.{TimerKey}
use Rattle.run_record.specs.Event.{Event}
use Rattle.settle_meaning.specs.Timers.{IsDue, IsGotDue, due_after, due_left}

-- the keys of timers that are set, each with the time for which it is set
abbrev pub Times : Type 0
Times = List (TimerKey × ℕ)

-- for which time the timer with this key is set, if it is set
abbrev pub time_of : Times → TimerKey → Option ℕ
time_of times key = lookup (is_at (key_order key)) times

-- these are the times after the events
abbrev pub AreTimesAfter : List Event → Times → Type 0
AreTimesAfter events times = (key : TimerKey) → time_of times key ≡ due_after key None events

-- the time of this key is another one, or none; all others stay
abbrev pub IsWith : TimerKey → Option ℕ → Times → Times → Type 0
IsWith key due old new =
    (other : TimerKey) → time_of new other ≡ (if same_key key other then due else time_of old other)

-- The event takes no timer's signal before its time, and these are the times after it.
pub record IsDueNext (before : List Event) (happened : Event) (after : List Event) (times : Times) : Type 0 where
  pub due : IsDue before happened
  pub times_are : AreTimesAfter after times

-- What is taken at this time is no signal of a timer before its time, and these are the times after it.
pub record IsGotNext (before : List Event) (at : ℕ) (got : Got) (times : Times) : Type 0 where
  pub due : IsGotDue before at got
  pub times_are : (key : TimerKey) → time_of times key ≡ due_left key (due_after key None before) got
