use Rattle.std.proofs.Common.{◌≡◌, ◌++◌, List}
use Rattle.run_record.specs.Event.{Event}
use Rattle.settle_checks.specs.Late.{IsSightOf}
use Rattle.settle_checks.proofs.summing.late.passes_of.Given as goal

abbrev pub invariant-loop-told : goal.invariant-loop-told
invariant-loop-told l =
    (done : List Event) × (l.trace.events ≡ done ++ l.told-iterator)
    × IsSightOf done l.sight.time l.sight.passes.items
