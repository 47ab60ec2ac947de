use Rattle.std.proofs.Common.{◌≤◌, length}
use Rattle.conformance.proofs.lines.Lines.split_at_mark.Given as goal

abbrev pub invariant-loop-line : goal.invariant-loop-line
invariant-loop-line l = length l.rest.text.now ≤ length l.self.text.now

abbrev pub decreases-loop-line : goal.decreases-loop-line
decreases-loop-line l = length l.rest.text.now
