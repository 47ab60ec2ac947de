-- No signal of a timer is taken before its time (Z.102: timer, set, reset).
use Rattle.std.specs.Prelude.{◌≡◌, ◌≤◌, ℕ, List, [], ◌∷◌, ◌++◌, None, Option, Some, IsSomeAnd, if◌then◌else◌}
use Rattle.port_model.specs.Timers.{same_key}
use Rattle.port_model.specs.declared.got.Got as got
use Rattle.port_model.specs.declared.got.Got.TheVariants as came
use Rattle.port_model.specs.declared.values.timer_key.TimerKey.{TimerKey}
use Rattle.run_record.specs.Event as event
use Rattle.run_record.specs.Event.{Event}

-- once the signal of a timer is taken, that one isn't set any more
abbrev pub due_left : TimerKey → Option ℕ → got.Got → Option ℕ
due_left key due (came.Signal item) = due
due_left key due (came.Timer taken) = if same_key taken key then None else due

-- For which time the timer with this key is set once this happened, by what it was before. None: it isn't set, or its
-- signal is taken.
abbrev pub due_after_one : TimerKey → Option ℕ → Event → Option ℕ
due_after_one key due (event.Set set later) = if same_key set key then Some later else due
due_after_one key due (event.Reset reset) = if same_key reset key then None else due
due_after_one key due (event.Consumed at got) = due_left key due got
due_after_one key due (event.Prior at got) = due_left key due got
due_after_one key due (event.Discarded at got) = due_left key due got
due_after_one key due happened = due

abbrev pub due_after : TimerKey → Option ℕ → List Event → Option ℕ
due_after key due [] = due
due_after key due (happened ∷ rest) = due_after key (due_after_one key due happened) rest

-- what is taken at this time is a signal, or that of a timer that was set before, for this time or an earlier one
abbrev pub IsGotDue : List Event → ℕ → got.Got → Type 0
IsGotDue before at (came.Signal item) = Unit {0}
IsGotDue before at (came.Timer key) = IsSomeAnd (due_after key None before) (λ due. due ≤ at)

-- so it is with what the event takes, if it takes something, after these events
abbrev pub IsDue : List Event → Event → Type 0
IsDue before (event.Consumed at got) = IsGotDue before at got
IsDue before (event.Prior at got) = IsGotDue before at got
IsDue before (event.Discarded at got) = IsGotDue before at got
IsDue before happened = Unit {0}

-- and with each of these events, after those before it
abbrev pub AreDue : List Event → Type 0
AreDue events =
    (before later : List Event) (happened : Event) → events ≡ before ++ happened ∷ later → IsDue before happened
