use Rattle.std.proofs.Common.{[]}
use Rattle.build_definitions.specs.Seen.{connection_seen}
use Rattle.build_network.specs.Connects.{connects_of}
use Rattle.build_network.proofs.BehindLemmas.{behind_all, behind_more}
use Rattle.build_network.proofs.connects.all_connects.Goals as goal

pub loop-entry-preserved : goal.loop-entry-preserved
loop-entry-preserved c =
    behind_more (connects_of c.args.symbols.now c.args.numbers.now) connection_seen [] _ _ c.args.entries.now
    c.loop-entry.entry-index c.entry-item.result c.loop-entry-test.true c.entry-item.is c.loop-entry.invariant
    c.in_ok-add_connect.ensures

pub returns : goal.returns
returns c =
    behind_all (connects_of c.args.symbols.now c.args.numbers.now) connection_seen [] _ c.args.entries.now
    c.loop-entry.entry-index c.loop-entry-test.false c.loop-entry.invariant
