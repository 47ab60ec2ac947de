use Rattle.std.proofs.Common.{◌≡◌, ◌++◌, List}
use Rattle.run_record.specs.Event.{Event}
use Rattle.settle_checks.specs.Summary.{IsSummedUp}
use Rattle.settle_checks.proofs.summing.summary.summary_of.Given as goal

abbrev pub invariant-loop-told : goal.invariant-loop-told
invariant-loop-told l =
    (done : List Event) × (l.trace.events ≡ done ++ l.told-iterator) × IsSummedUp l.process done l.summary
