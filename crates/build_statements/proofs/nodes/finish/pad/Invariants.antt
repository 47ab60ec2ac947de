use Rattle.std.proofs.Common.{◌≡◌, ◌+◌, ◌-◌, length}
use Rattle.build_statements.specs.Linked.{place_at}
use Rattle.sdl_system.specs.declared.id.LabelId.{LabelId}
use Rattle.build_statements.proofs.nodes.finish.pad.Given as goal

abbrev pub invariant-loop-places : goal.invariant-loop-places
invariant-loop-places l = (other : LabelId) → place_at l.places.items other ≡ place_at l.initial.places.items other

abbrev pub decreases-loop-places : goal.decreases-loop-places
decreases-loop-places l = l.index + 1 - length l.places.items
