use Rattle.std.proofs.Common.{◌≡◌, ◌≤◌, length, reverse, take}
use Rattle.explain_syntax.specs.Scan.{opening_before, opening_in}
use Rattle.explain_syntax.proofs.rests.scan.opening_before.Given as goal

abbrev pub invariant-back : goal.invariant-back
invariant-back l = record {
  same : opening_in l.ended (reverse (take l.behind l.words)) ≡ opening_before l.words l.at;
  within : l.behind ≤ length l.words;
}

abbrev pub decreases-back : goal.decreases-back
decreases-back l = l.behind
