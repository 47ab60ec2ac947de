use Rattle.std.proofs.Common.{All, take}
use Rattle.sdl_system.specs.declared.id.ProcessId.{ProcessId}
use Rattle.settle_meaning.specs.Identities.{HasNoNumber}
use Rattle.settle_checks.specs.declared.summing.summary.Summary.{Summary}
use Rattle.settle_checks.proofs.summing.nulls.are_caused.Given as goal

abbrev pub invariant-loop-sum : goal.invariant-loop-sum
invariant-loop-sum l =
    All (λ (sum : Summary). All (λ (process : ProcessId). HasNoNumber l.system l.records process)
    sum.creating.refused.items) (take l.sum-index l.sums)
