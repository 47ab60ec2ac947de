use Rattle.std.proofs.Common.{length}
use Rattle.conformance.proofs.escape.expand_turn.Given as goal

abbrev pub decreases-loop-rest : goal.decreases-loop-rest
decreases-loop-rest l = length l.rest
