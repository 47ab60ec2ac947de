use Rattle.std.proofs.Common.{◌≡◌, take}
use Rattle.view_coverage.specs.Coverage.{counted, times_in}
use Rattle.view_coverage.specs.declared.point.Point.{Point}
use Rattle.view_coverage.proofs.counts.Counts.of.Given as goal

abbrev pub invariant-loop-record : goal.invariant-loop-record
invariant-loop-record l =
    (point : Point) → counted l.counts point ≡ times_in (take l.record-index l.record-items) point
