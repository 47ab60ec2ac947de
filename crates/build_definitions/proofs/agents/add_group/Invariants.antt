use Rattle.std.proofs.Common.{◌≡◌, ◌++◌, take}
use Rattle.build_definitions.specs.Rows.{repeated}
use Rattle.sdl_tree.specs.Views.{names_value}
use Rattle.build_definitions.proofs.agents.add_group.Given as goal

abbrev pub invariant-loop-name : goal.invariant-loop-name
invariant-loop-name l =
    l.sorts.items ≡ l.initial.sorts.items ++ repeated l.sort (names_value (take l._name-index l._name-items))
