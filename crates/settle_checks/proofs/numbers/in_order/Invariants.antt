use Rattle.std.proofs.Common.{◌≤◌, All, drop, take}
use Rattle.run_record.specs.Record.{RecordValue}
use Rattle.run_semantics.specs.World.{most_instances}
use Rattle.settle_meaning.specs.Identities.{AreRising}
use Rattle.settle_checks.proofs.numbers.in_order.Given as goal

abbrev pub invariant-loop-record : goal.invariant-loop-record
invariant-loop-record l =
    record {
      rising : AreRising l.last (drop l.record-index l.records) → AreRising 0 l.records;
      within : All (λ (trace : RecordValue). trace.pid ≤ most_instances) (take l.record-index l.records);
    }
