use Rattle.std.proofs.Common.{◌≡◌, ◌++◌, length}
use Rattle.sdl_warnings.specs.Decisions.{answers, beginning}
use Rattle.sdl_warnings.proofs.answered.answers.Given as goal

abbrev pub invariant-rest : goal.invariant-rest
invariant-rest l = l.found.items ++ answers l.inside l.rest ≡ answers beginning l.words

abbrev pub decreases-rest : goal.decreases-rest
decreases-rest l = length l.rest
