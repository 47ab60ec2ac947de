use Rattle.std.proofs.Common.{◌≡◌, ◌++◌, drop, map}
use Rattle.sdl_warnings.specs.Heads.{head_value}
use Rattle.sdl_warnings.specs.Missing.{missing}
use Rattle.sdl_warnings.specs.Sets.{has}
use Rattle.sdl_warnings.proofs.missing.add_missing.Given as goal

abbrev pub invariant-loop-head : goal.invariant-loop-head
invariant-loop-head l =
    l.found.items ++ missing l.suspicion (has l.set) (map head_value (drop l.head-index l.names))
    ≡ l.fn.found.items ++ missing l.suspicion (has l.set) (map head_value l.names)
