use Rattle.std.proofs.Common.{◌≡◌, drop}
use Rattle.explain_syntax.specs.Scan.{last_lead, lead_from}
use Rattle.explain_syntax.proofs.rests.scan.last_lead.Given as goal

abbrev pub invariant-loop-at : goal.invariant-loop-at
invariant-loop-at l = lead_from l.to l.found l.at (drop l.at l.words) ≡ last_lead l.words l.to
