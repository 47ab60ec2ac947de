use Rattle.std.proofs.Common.{length}
use Rattle.conformance.proofs.lines.Lines.without_empty_end.Given as goal

abbrev pub decreases-loop-front : goal.decreases-loop-front
decreases-loop-front l = length l.text
