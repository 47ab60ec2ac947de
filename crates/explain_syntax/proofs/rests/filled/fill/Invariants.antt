use Rattle.explain_syntax.specs.Rest.{byte_at}
use Rattle.explain_syntax.proofs.ChangeLemmas.{IsChanged}
use Rattle.explain_syntax.proofs.rests.filled.fill.Given as goal

abbrev pub invariant-loop-at : goal.invariant-loop-at
invariant-loop-at l = IsChanged (byte_at l.from l.to l.stops) l.at l.fn.text.items l.text.items
