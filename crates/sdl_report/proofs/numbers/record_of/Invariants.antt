use Rattle.std.proofs.Common.{◌≡◌, length}
use Rattle.sdl_report.specs.Number.{last_of, record_of}
use Rattle.sdl_report.proofs.numbers.record_of.Given as goal

abbrev pub invariant-loop-record : goal.invariant-loop-record
invariant-loop-record l = last_of l.number l.left ≡ record_of l.number l.records

abbrev pub decreases-loop-record : goal.decreases-loop-record
decreases-loop-record l = length l.left
