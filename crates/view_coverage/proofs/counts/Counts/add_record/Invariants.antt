use Rattle.std.proofs.Common.{◌≡◌, ◌+◌, None}
use Rattle.view_coverage.specs.Coverage.{counted, times_from}
use Rattle.view_coverage.specs.declared.point.Point.{Point}
use Rattle.view_coverage.proofs.counts.Counts.add_record.Given as goal

abbrev pub invariant-loop-told : goal.invariant-loop-told
invariant-loop-told l =
    (point : Point) → counted l.self point + times_from l.process l.state l.told-iterator point
    ≡ counted l.initial.self point + times_from l.process None l.initial.told-iterator point
