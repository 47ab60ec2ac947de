use Rattle.std.proofs.Common.{◌≡◌, ◌++◌, take}
use Rattle.build_network.specs.Seen.{seen_of, items_in}
use Rattle.sdl_tree.specs.Views.{items_value}
use Rattle.build_network.proofs.seen.Seen.add_items.Given as goal

abbrev pub invariant-loop-item : goal.invariant-loop-item
invariant-loop-item l =
    l.list.items ≡ l.initial.list.items ++ items_in (seen_of l.self) (items_value (take l.item-index l.items))
