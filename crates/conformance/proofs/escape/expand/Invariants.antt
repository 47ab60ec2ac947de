use Rattle.std.proofs.Common.{◌≡◌, ◌≤◌, ◌++◌, length}
use Rattle.conformance.specs.Escape.{IsPlain}
use Rattle.conformance.proofs.escape.expand.Given as goal

abbrev pub invariant-loop-rest : goal.invariant-loop-rest
invariant-loop-rest l = record { shorter : length l.rest ≤ length l.text; plain : IsPlain l.text → IsPlain l.rest × (l.out.items ++ l.rest ≡ l.initial.out.items ++ l.text) }

abbrev pub decreases-loop-rest : goal.decreases-loop-rest
decreases-loop-rest l = length l.rest
