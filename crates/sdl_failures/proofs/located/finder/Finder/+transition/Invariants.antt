use Rattle.std.proofs.Common.{◌≤◌, length}
use Rattle.sdl_failures.proofs.located.finder.Finder.+transition.Given as goal

abbrev pub invariant-actions-loop-left : goal.invariant-actions-loop-left
invariant-actions-loop-left l = l.left ≤ length l.actions

abbrev pub decreases-actions-loop-left : goal.decreases-actions-loop-left
decreases-actions-loop-left l = l.left
