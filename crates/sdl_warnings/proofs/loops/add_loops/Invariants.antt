use Rattle.std.proofs.Common.{◌≡◌, ◌≤◌, ◌-◌, ◌++◌, [], drop, length, reverse, take}
use Rattle.sdl_warnings.specs.Loops.{loops}
use Rattle.sdl_warnings.proofs.loops.add_loops.Given as goal

abbrev pub invariant-loop-at : goal.invariant-loop-at
invariant-loop-at l = record {
  within : l.at ≤ length l.words;
  same : l.found.items ++ loops (reverse (take l.at l.words)) (drop l.at l.words)
      ≡ l.fn.found.items ++ loops [] l.words;
}

abbrev pub decreases-loop-at : goal.decreases-loop-at
decreases-loop-at l = length l.words - l.at
