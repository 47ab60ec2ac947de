use Rattle.std.proofs.Common.{◌≡◌, flat_map, take}
use Rattle.build_limits.specs.Limits.{declared_of}
use Rattle.build_limits.specs.Listed.{declared_listed, definitions_listed}
use Rattle.build_limits.proofs.limits.declared_in.Given as goal

abbrev pub invariant-loop-definition : goal.invariant-loop-definition
invariant-loop-definition l =
    declared_listed l.declared.items
    ≡ flat_map declared_of (definitions_listed (take l.definition-index l.definitions))
