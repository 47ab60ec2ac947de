use Rattle.std.proofs.Common.{◌≡◌, drop}
use Rattle.explain_syntax.specs.Scan.{end_after, end_from}
use Rattle.explain_syntax.proofs.rests.scan.end_after.Given as goal

abbrev pub invariant-loop-at : goal.invariant-loop-at
invariant-loop-at l = end_from l.from l.depth l.at (drop l.at l.words) ≡ end_after l.words l.from
