use Rattle.std.proofs.Common.{◌≡◌, ◌-◌, ◌^◌, min, take}
use Rattle.std.specs.List.{sum_by}
use Rattle.sdl_report.specs.Pieces.{line_count}
use Rattle.sdl_report.proofs.workers.shares.count_of_lines.Given as goal

abbrev pub invariant-loop-record : goal.invariant-loop-record
invariant-loop-record l = l.lines ≡ min (sum_by line_count (take l.record-index l.records)) (2 ^ 64 - 1)
