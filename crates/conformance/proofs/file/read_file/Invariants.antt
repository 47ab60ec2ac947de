use Rattle.std.proofs.Common.{length}
use Rattle.conformance.proofs.file.read_file.Given as goal

abbrev pub decreases-loop-title : goal.decreases-loop-title
decreases-loop-title l = length l.rest.text.now
