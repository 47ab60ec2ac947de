use Rattle.std.proofs.Common.{◌≡◌, drop}
use Rattle.explain_syntax.specs.Scan.{ends_stimulus_from, first_such, next_end}
use Rattle.explain_syntax.proofs.rests.scan.next_end.Given as goal

abbrev pub invariant-loop-at : goal.invariant-loop-at
invariant-loop-at l =
    first_such (ends_stimulus_from l.words l.from) l.at (drop l.at l.words) ≡ next_end l.words l.from
