use Rattle.std.proofs.Common.{take}
use Rattle.sdl_tree.specs.Views.{names_value}
use Rattle.build_limits.specs.Counted.{Counts}
use Rattle.build_limits.proofs.limits.count.Count.names.Given as goal

abbrev pub invariant-loop-name : goal.invariant-loop-name
invariant-loop-name l = Counts l.initial.self l.self (names_value (take l.name-index l.names))
