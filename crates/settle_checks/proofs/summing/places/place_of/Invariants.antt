use Rattle.std.proofs.Common.{◌≡◌, ◌<◌, ◌≤◌, ◌-◌, get_or, length, ℕ}
use Rattle.run_record.specs.Record.{RecordValue}
use Rattle.settle_checks.proofs.summing.places.place_of.Given as goal

abbrev pub invariant-loop-back : goal.invariant-loop-back
invariant-loop-back l =
    (k : ℕ) (d : RecordValue) → l.end - l.back ≤ k → k < length l.records → (get_or l.records k d).pid ≡ l.number → ⊥
