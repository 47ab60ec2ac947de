use Rattle.std.proofs.Common.{length}
use Rattle.conformance.proofs.collection.read_files.Given as goal

abbrev pub decreases-loop-line : goal.decreases-loop-line
decreases-loop-line g l = length l.rest.text.now
