use Rattle.std.proofs.Common.{◌≡◌, ◌++◌, flat_map, map, take}
use Rattle.sdl_tree.specs.Views.{local_value}
use Rattle.build_limits.specs.Limits.{local_declared}
use Rattle.build_limits.specs.Listed.{declared_listed}
use Rattle.build_limits.proofs.limits.add_locals.Given as goal

abbrev pub invariant-loop-definition : goal.invariant-loop-definition
invariant-loop-definition l =
    declared_listed l.declared.items
    ≡ declared_listed l.initial.declared.items
    ++ flat_map local_declared (map local_value (take l.definition-index l.definitions))
