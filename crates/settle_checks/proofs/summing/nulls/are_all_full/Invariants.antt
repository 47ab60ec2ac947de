use Rattle.std.proofs.Common.{All, take}
use Rattle.std.specs.Prelude.{IfSome}
use Rattle.sdl_system.specs.declared.id.ProcessId.{ProcessId}
use Rattle.settle_meaning.specs.Identities.{HasNoNumber}
use Rattle.settle_checks.proofs.summing.nulls.are_all_full.Given as goal

abbrev pub invariant-loop-process : goal.invariant-loop-process
invariant-loop-process l =
    record {
      full : All (λ (process : ProcessId). HasNoNumber l.system l.records process) (take l.process-index l.processes);
      last : IfSome l.last (λ (process : ProcessId). HasNoNumber l.system l.records process);
    }
