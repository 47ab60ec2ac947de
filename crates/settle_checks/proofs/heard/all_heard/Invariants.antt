use Rattle.std.proofs.Common.{◌≡◌, All, List, slice_index_or, take}
use Rattle.run_record.specs.Record.{RecordValue}
use Rattle.settle_checks.specs.Outputs.{AreNamed, IsEnoughHeard, targets_of}
use Rattle.settle_meaning.specs.Puts.{Heard, IsNamed}
use Rattle.settle_checks.proofs.heard.all_heard.Given as goal

abbrev pub invariant-loop-to : goal.invariant-loop-to
invariant-loop-to l =
    (heard : List Heard) → targets_of heard ≡ l.targets → AreNamed heard l.named
    → All (λ (to : RecordValue). IsEnoughHeard (IsNamed heard) heard to (slice_index_or l.sent to.pid 0)) (take l.to-index l.records)
