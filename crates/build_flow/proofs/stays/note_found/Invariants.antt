use Rattle.std.proofs.Common.{flat_map, take}
use Rattle.build_names.specs.Faults.{Notes}
use Rattle.build_flow.specs.Listed.{terminators_listed}
use Rattle.build_flow.specs.Stays.{stay_fault}
use Rattle.build_flow.proofs.stays.note_found.Given as goal

abbrev pub invariant-loop-one : goal.invariant-loop-one
invariant-loop-one l =
    Notes l.initial.faults l.faults (flat_map stay_fault (terminators_listed (take l.one-index l.found)))
