use Rattle.std.proofs.Common.{◌≡◌, ◌++◌, drop, map}
use Rattle.sdl_warnings.specs.Found.{warning_of}
use Rattle.sdl_warnings.proofs.oddities.add_oddities.Given as goal

abbrev pub invariant-loop-oddity : goal.invariant-loop-oddity
invariant-loop-oddity l =
    l.found.items ++ map warning_of (drop l.oddity-index l.oddities) ≡ l.fn.found.items ++ map warning_of l.oddities
