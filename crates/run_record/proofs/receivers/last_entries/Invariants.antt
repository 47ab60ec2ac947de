use Rattle.std.proofs.Common.{◌≡◌, ◌+◌, drop, length, take}
use Rattle.run_record.specs.Packed.{events_in}
use Rattle.run_record.proofs.receivers.last_entries.Given as goal

abbrev pub invariant-back : goal.invariant-back
invariant-back l = record {
  front : l.before ≡ take (length l.before) l.entries;
  events : events_in (drop (length l.before) l.entries) + l.left ≡ l.count;
}

abbrev pub decreases-back : goal.decreases-back
decreases-back l = length l.before
