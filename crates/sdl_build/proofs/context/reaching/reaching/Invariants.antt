use Rattle.std.proofs.Common.{◌≡◌}
use Rattle.sdl_build.specs.ProcessScope.{reaching}
use Rattle.sdl_build.proofs.context.reaching.reaching.Given as goal

abbrev pub invariant-loop-number : goal.invariant-loop-number
invariant-loop-number l = l.reaches.items ≡ reaching l.routes l.process l.number
