use Rattle.std.proofs.Common.{◌≡◌, drop}
use Rattle.sdl_system.specs.Table.{way_among}
use Rattle.sdl_system.proofs.statement.Decision.way.Given as goal

abbrev pub invariant-loop-branch : goal.invariant-loop-branch
invariant-loop-branch l =
    way_among l.value l.branch-items l.self.otherwise ≡ way_among l.value (drop l.branch-index l.branch-items) l.self.otherwise
