use Rattle.build_network.specs.Seen.{found_item, seen_of}
use Rattle.sdl_tree.specs.Views.{item_value}
use Rattle.build_network.proofs.BehindLemmas.{behind_all, behind_more}
use Rattle.build_network.proofs.seen.Seen.add_items.Goals as goal

pub loop-item-preserved : goal.loop-item-preserved
loop-item-preserved c =
    behind_more (found_item (seen_of c.args.self.now)) item_value _ _ _ c.args.items.now c.loop-item.item-index
    c.item-item.result c.loop-item-test.true c.item-item.is c.loop-item.invariant c.in_ok-add_item.ensures

pub returns : goal.returns
returns c =
    behind_all (found_item (seen_of c.args.self.now)) item_value _ _ c.args.items.now c.loop-item.item-index
    c.loop-item-test.false c.loop-item.invariant
