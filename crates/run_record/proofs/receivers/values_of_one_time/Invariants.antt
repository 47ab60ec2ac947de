use Rattle.std.proofs.Common.{◌≡◌, ◌+◌, ℕ, length}
use Rattle.run_record.specs.Packed.{counted, time_in}
use Rattle.run_record.proofs.receivers.values_of_one_time.Given as goal

-- the entries that were passed over have so many values, and are no times
abbrev pub invariant-on : goal.invariant-on
invariant-on l = record {
  counts : counted l.entries ≡ l.count + counted l.left;
  time : (time : ℕ) → time_in time l.entries ≡ time_in time l.left;
}

abbrev pub decreases-on : goal.decreases-on
decreases-on l = length l.left
