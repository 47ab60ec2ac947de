use Rattle.settle_checks.proofs.DueLemmas.{AreDueSoFar}
use Rattle.settle_checks.proofs.summing.dues.are_due.Given as goal

abbrev pub invariant-loop-told : goal.invariant-loop-told
invariant-loop-told l = AreDueSoFar l.trace.events l.told-iterator l.dues
