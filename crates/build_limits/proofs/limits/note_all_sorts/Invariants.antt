use Rattle.std.proofs.Common.{flat_map, take}
use Rattle.build_names.specs.Faults.{Notes}
use Rattle.build_limits.specs.Limits.{declared_faults}
use Rattle.build_limits.specs.Listed.{declared_listed}
use Rattle.build_limits.proofs.limits.note_all_sorts.Given as goal

abbrev pub invariant-loop-declared : goal.invariant-loop-declared
invariant-loop-declared l =
    Notes l.initial.faults l.faults (flat_map declared_faults (declared_listed (take l.declared-index l.list)))
