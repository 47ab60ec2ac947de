use Rattle.std.proofs.Common.{◌≡◌, flat_map, take}
use Rattle.build_limits.specs.Limits.{processes_of}
use Rattle.build_limits.specs.Listed.{definitions_listed, processes_listed}
use Rattle.build_limits.proofs.limits.processes_in.Given as goal

abbrev pub invariant-loop-definition : goal.invariant-loop-definition
invariant-loop-definition l =
    processes_listed l.processes.items
    ≡ flat_map processes_of (definitions_listed (take l.definition-index l.definitions))
