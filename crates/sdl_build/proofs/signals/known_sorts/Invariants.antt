use Rattle.std.proofs.Common.{◌≡◌, ◌++◌, drop, flat_map}
use Rattle.sdl_build.specs.Signals.{known_sort}
use Rattle.sdl_build.proofs.signals.known_sorts.Given as goal

abbrev pub invariant-loop-sort : goal.invariant-loop-sort
invariant-loop-sort l =
    l.known.items ++ flat_map known_sort (drop l.sort-index l.sorts) ≡ flat_map known_sort l.sorts
