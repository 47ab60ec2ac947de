use Rattle.build_network.specs.Processes.{set_items}
use Rattle.build_network.specs.Seen.{seen_of}
use Rattle.sdl_tree.specs.Views.{local_value}
use Rattle.build_network.proofs.BehindLemmas.{behind_all, behind_more}
use Rattle.build_network.proofs.mentions.add_sets.Goals as goal

pub loop-definition-preserved : goal.loop-definition-preserved
loop-definition-preserved c =
    behind_more (set_items (seen_of c.args.seen.now)) local_value _ _ _ c.args.definitions.now
    c.loop-definition.definition-index
    c.definition-item.result c.loop-definition-test.true c.definition-item.is c.loop-definition.invariant
    c.in_ok-add_set.ensures

pub returns : goal.returns
returns c =
    behind_all (set_items (seen_of c.args.seen.now)) local_value _ _ c.args.definitions.now
    c.loop-definition.definition-index
    c.loop-definition-test.false c.loop-definition.invariant
