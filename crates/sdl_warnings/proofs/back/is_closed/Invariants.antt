use Rattle.std.proofs.Common.{◌≡◌, ◌≤◌, None, length, reverse, take}
use Rattle.sdl_warnings.specs.Loops.{beginning, is_closed}
use Rattle.sdl_warnings.proofs.back.is_closed.Given as goal

abbrev pub invariant-loop-at : goal.invariant-loop-at
invariant-loop-at l = record {
  within : l.at ≤ length l.words;
  same : is_closed l.label l.back l.next (reverse (take l.at l.words))
      ≡ is_closed l.label beginning None (reverse (take l.end l.words));
}

abbrev pub decreases-loop-at : goal.decreases-loop-at
decreases-loop-at l = l.at
