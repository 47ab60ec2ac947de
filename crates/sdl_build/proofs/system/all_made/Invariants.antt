use Rattle.std.proofs.Common.{◌≡◌, Some, map}
use Rattle.sdl_build.proofs.system.all_made.Given as goal

abbrev pub invariant-loop-process : goal.invariant-loop-process
invariant-loop-process l = map Some l.list.items ≡ l.yielded
