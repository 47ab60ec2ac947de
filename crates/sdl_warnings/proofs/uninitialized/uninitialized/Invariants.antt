use Rattle.std.proofs.Common.{◌≡◌, ◌++◌, length, map}
use Rattle.sdl_warnings.specs.Heads.{head_value, nowhere}
use Rattle.sdl_warnings.specs.Unset.{uninitialized}
use Rattle.sdl_warnings.proofs.uninitialized.uninitialized.Given as goal

abbrev pub invariant-rest : goal.invariant-rest
invariant-rest l = map head_value l.found.items ++ uninitialized l.spot l.rest ≡ uninitialized nowhere l.words

abbrev pub decreases-rest : goal.decreases-rest
decreases-rest l = length l.rest
