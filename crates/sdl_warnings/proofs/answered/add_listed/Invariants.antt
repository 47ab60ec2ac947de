use Rattle.std.proofs.Common.{◌≡◌, ◌≤◌, ◌-◌, ◌++◌, [], drop, length, slice_range}
use Rattle.sdl_warnings.specs.Decisions.{listed}
use Rattle.sdl_warnings.proofs.answered.add_listed.Given as goal

abbrev pub invariant-loop-at : goal.invariant-loop-at
invariant-loop-at l = record {
  begins : l.begin ≤ l.at;
  within : l.at ≤ length l.words;
  same : l.found.items ++ listed l.depth (slice_range l.words l.begin l.at) (drop l.at l.words)
      ≡ l.fn.found.items ++ listed 0 [] l.words;
}

abbrev pub decreases-loop-at : goal.decreases-loop-at
decreases-loop-at l = length l.words - l.at
