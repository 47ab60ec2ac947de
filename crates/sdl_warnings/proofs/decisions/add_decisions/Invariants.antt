use Rattle.std.proofs.Common.{◌≡◌, ◌++◌, length}
use Rattle.sdl_warnings.specs.Decisions.{of_decisions}
use Rattle.sdl_warnings.proofs.decisions.add_decisions.Given as goal

abbrev pub invariant-rest : goal.invariant-rest
invariant-rest l = l.found.items ++ of_decisions l.rest ≡ l.fn.found.items ++ of_decisions l.words

abbrev pub decreases-rest : goal.decreases-rest
decreases-rest l = length l.rest
