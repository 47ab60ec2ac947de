use Rattle.std.proofs.Common.{◌≡◌, map, take}
use Rattle.build_definitions.specs.Sorts.{sort_at}
use Rattle.sdl_tree.specs.Views.{sorts_value}
use Rattle.build_definitions.proofs.sorts.sorts_at.Given as goal

abbrev pub invariant-loop-name : goal.invariant-loop-name
invariant-loop-name l = l.sorts.items ≡ map sort_at (sorts_value (take l.name-index l.names))
