use Rattle.std.proofs.Common.{◌≡◌, ◌++◌, ◌+◌, drop, length}
use Rattle.settle_meaning.specs.Identities.{first_identities}
use Rattle.settle_checks.proofs.summing.made.add_initial.Given as goal

abbrev pub invariant-loop-process : goal.invariant-loop-process
invariant-loop-process l =
    l.made.items ++ first_identities (length l.made.items + 1) l.id (drop l.process-index l.processes)
    ≡ first_identities 1 0 l.processes
