use Rattle.std.proofs.Common.{◌≡◌, take}
use Rattle.build_statements.specs.Linked.{first_mark, place_at}
use Rattle.sdl_system.specs.declared.id.LabelId.{LabelId}
use Rattle.build_statements.proofs.nodes.finish.places_of.Given as goal

abbrev pub invariant-loop-mark : goal.invariant-loop-mark
invariant-loop-mark l =
    (label : LabelId) → place_at l.places.items label ≡ first_mark (take l.mark-index l.marks) label
