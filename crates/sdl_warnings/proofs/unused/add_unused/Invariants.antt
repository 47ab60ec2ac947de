use Rattle.std.proofs.Common.{◌≡◌, ◌++◌, drop, map}
use Rattle.sdl_warnings.specs.Unused.{defined_value, unused}
use Rattle.sdl_warnings.proofs.unused.add_unused.Given as goal

abbrev pub invariant-loop-defined : goal.invariant-loop-defined
invariant-loop-defined l =
    l.found.items ++ unused l.fn.words (map defined_value (drop l.defined-index l.defined-items))
    ≡ l.fn.found.items ++ unused l.fn.words (map defined_value l.defined-items)
