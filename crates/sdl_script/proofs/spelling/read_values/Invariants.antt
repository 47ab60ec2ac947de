use Rattle.std.proofs.Common.{length}
use Rattle.sdl_script.proofs.ValueLemmas.{ReadSoFar}
use Rattle.sdl_script.proofs.spelling.read_values.Given as goal

abbrev pub invariant-loop-values : goal.invariant-loop-values
invariant-loop-values l = ReadSoFar l.fn.cursor l.values.items l.cursor

abbrev pub decreases-loop-values : goal.decreases-loop-values
decreases-loop-values l = length l.cursor
