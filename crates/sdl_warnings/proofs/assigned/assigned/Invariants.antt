use Rattle.std.proofs.Common.{◌≡◌, ◌++◌, None, length, map}
use Rattle.sdl_warnings.specs.Heads.{head_value}
use Rattle.sdl_warnings.specs.Unset.{assigned}
use Rattle.sdl_warnings.proofs.assigned.assigned.Given as goal

abbrev pub invariant-rest : goal.invariant-rest
invariant-rest l = map head_value l.found.items ++ assigned l.before l.rest ≡ assigned None l.words

abbrev pub decreases-rest : goal.decreases-rest
decreases-rest l = length l.rest
