use Rattle.std.proofs.Common.{◌≡◌, ◌≤◌, ◌+◌, ◌-◌, drop, length}
use Rattle.std.specs.List.{prefix_len}
use Rattle.sdl_warnings.specs.Processes.{goes_on}
use Rattle.sdl_warnings.proofs.processes.process_end.Given as goal

abbrev pub invariant-loop-end : goal.invariant-loop-end
invariant-loop-end l = record {
  from : l.from ≤ l.end;
  within : l.end ≤ length l.words;
  same : l.end + prefix_len goes_on (drop l.end l.words) ≡ l.from + prefix_len goes_on (drop l.from l.words);
}

abbrev pub decreases-loop-end : goal.decreases-loop-end
decreases-loop-end l = length l.words - l.end
