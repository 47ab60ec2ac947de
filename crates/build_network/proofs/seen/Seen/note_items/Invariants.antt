use Rattle.std.proofs.Common.{take}
use Rattle.build_network.specs.Seen.{seen_of, items_faults}
use Rattle.build_names.specs.Faults.{Notes}
use Rattle.sdl_tree.specs.Views.{items_value}
use Rattle.build_network.proofs.seen.Seen.note_items.Given as goal

abbrev pub invariant-loop-item : goal.invariant-loop-item
invariant-loop-item l =
    Notes l.initial.faults l.faults (items_faults (seen_of l.self) (items_value (take l.item-index l.items)))
