-- Records that wait until something has come so far.
use Rattle.std.specs.Prelude.{◌≡◌, ◌≤◌, ℕ, List, ◌∷◌}
use Rattle.std.specs.BTreeSet.{insert_key}
use Rattle.std.specs.Ordering.{nat_cmp, ordering_then}
use Rattle.std.specs.declared.cmp.Ordering.{Ordering}
use Rattle.run_tracks.specs.declared.waiting.Waiting.{Waiting}

abbrev pub WaitingList : Type 0
WaitingList = List Waiting

abbrev pub waiting : ℕ → ℕ → Waiting
waiting until number = record { until = until; number = number }

-- who waits for less comes first
abbrev pub waiting_order : Waiting → Waiting → Ordering
waiting_order a b = ordering_then (nat_cmp a.until b.until) (nat_cmp a.number b.number)

-- one more waits, in its place, unless it did so before
abbrev pub with_waiting : Waiting → WaitingList → WaitingList
with_waiting one list = insert_key waiting_order list one

-- the first one is taken, which has waited long enough
pub record IsTakenBy (now : ℕ) (old new : WaitingList) (number : ℕ) : Type 0 where
  pub until : ℕ
  pub has_come : until ≤ now
  pub first : old ≡ waiting until number ∷ new
