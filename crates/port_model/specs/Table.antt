-- The table of the active timers.
use Rattle.std.specs.Prelude.{◌≡◌, ◌≤◌, ℕ, nat_lt, ◌==◌, ◌&&◌, Bool, not, List, [], ◌∷◌, length, filter, if◌then◌else◌}
use Rattle.std.specs.List.{list_any}
use Rattle.std.specs.Ordering.{nat_cmp, ordering_then}
use Rattle.std.specs.declared.cmp.Ordering.{Ordering}
use Rattle.std.specs.BTreeMap.{is_at}
use Rattle.port_model.specs.declared.deadline.Deadline.{Deadline}
use Rattle.port_model.specs.declared.timer.ActiveTimer.{ActiveTimer}
use Rattle.port_model.specs.declared.timer.Phase.{Phase}
use Rattle.port_model.specs.declared.timer.Phase.TheVariants.{Running, Waiting}
use Rattle.port_model.specs.declared.values.timer_key.TimerKey.{TimerKey}
use Rattle.port_model.specs.declared.timers.Timer.{Timer}
use Rattle.port_model.specs.Timers.{same_key, Armed}

-- what a caller sees of a table: the active timers, and what each of their sets gave, in the order of the sets
pub record TimersValue : Type 0 where
  pub timers : List ActiveTimer
  pub armed : List Armed

-- an entry of the table
abbrev pub Kept : Type 0
Kept = TimerKey × Timer

abbrev pub phase_of : Timer → Phase
phase_of timer = if timer.waits then Waiting timer.arm else Running timer.arm timer.due

abbrev pub active_of : Kept → ActiveTimer
active_of kept = record { key = kept.0; phase = phase_of kept.1 }

abbrev pub armed_of : Kept → Armed
armed_of kept = record { key = kept.0; arm = kept.1.arm; due = kept.1.due }

-- the entries in the order of their sets
abbrev pub put_in : Kept → List Kept → List Kept
put_in kept [] = kept ∷ []
put_in kept (other ∷ more) = if nat_lt kept.1.arm other.1.arm then kept ∷ other ∷ more else other ∷ put_in kept more

abbrev pub in_order : List Kept → List Kept
in_order [] = []
in_order (kept ∷ more) = put_in kept (in_order more)

-- the entry is that of this key; and of this set; and it runs until this time, by this set
abbrev pub is_of : TimerKey → Kept → Bool
is_of key kept = same_key kept.0 key

abbrev pub is_set_by : ℕ → Kept → Bool
is_set_by arm kept = kept.1.arm == arm

abbrev pub runs_until : Deadline → Kept → Bool
runs_until deadline kept = not kept.1.waits && (kept.1.due == deadline.due && kept.1.arm == deadline.arm)

-- the deadline at this time, of this set; and the order of deadlines, by time and then by set
abbrev pub deadline_at : ℕ → ℕ → Deadline
deadline_at due arm = record { due = due; arm = arm }

abbrev pub deadline_order : Deadline → Deadline → Ordering
deadline_order a b = ordering_then (nat_cmp a.due b.due) (nat_cmp a.arm b.arm)

-- the timer runs until this deadline
abbrev pub is_until : Timer → Deadline → Bool
is_until timer deadline = not timer.waits && is_at (deadline_order (deadline_at timer.due timer.arm)) deadline

-- Each key and each set stands in the table once, and the deadlines are those of the timers that run.
pub record IsTable (entries : List Kept) (is_deadline : Deadline → Bool) : Type 0 where
  pub keys : (key : TimerKey) → length (filter (is_of key) entries) ≤ 1
  pub arms : (arm : ℕ) → length (filter (is_set_by arm) entries) ≤ 1
  pub runs : (deadline : Deadline) → is_deadline deadline ≡ list_any (runs_until deadline) entries
