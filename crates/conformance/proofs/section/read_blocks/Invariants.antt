use Rattle.std.proofs.Common.{length}
use Rattle.conformance.proofs.section.read_blocks.Given as goal

abbrev pub decreases-loop-title : goal.decreases-loop-title
decreases-loop-title l = length l.rest.text.now
