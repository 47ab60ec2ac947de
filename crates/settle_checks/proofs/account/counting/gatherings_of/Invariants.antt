use Rattle.std.proofs.Common.{◌≡◌, ◌<◌, get_or, length}
use Rattle.run_record.specs.Record.{RecordValue}
use Rattle.settle_checks.specs.Account.{AllAt}
use Rattle.settle_checks.specs.Gatherings.{IsGatheringOf}
use Rattle.settle_checks.specs.Gathering.{GatheringState}
use Rattle.settle_checks.proofs.account.counting.gatherings_of.Given as goal

abbrev pub invariant-loop-inbox : goal.invariant-loop-inbox
invariant-loop-inbox g l =
    record {
      at : l.at ≡ length l.yielded;
      long : length l.all.items ≡ length l.yielded;
      each : AllAt (λ k (one : GatheringState). (trace : RecordValue) → k < length l.records
          → trace ≡ get_or l.records k trace → IsGatheringOf k trace one) l.all.items;
    }
