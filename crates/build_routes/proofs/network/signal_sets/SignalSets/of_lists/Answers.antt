use Rattle.std.proofs.Common.{arith}
use Rattle.build_routes.proofs.ListLemmas.{column_more}
use Rattle.build_routes.proofs.network.signal_sets.SignalSets.of_lists.Goals as goal

pub loop-word-preserved : goal.loop-word-preserved
loop-word-preserved c = record {
  size = omega (arith, c.in_ok-push.ensures.len, c.loop-word.invariant.size);
  each = column_more c.args.lists.now c.in_ok-graph.graph.rows.items c.in_ok-start.start.items c.loop-word.columns.items c.push.new.self.items
      (record { masks = c.in_ok-masks.masks }) c.loop-word.word c.loop-word.invariant.size
      c.in_ok-start.ensures c.in_ok-graph.ensures c.in_ok-masks.ensures c.loop-word.invariant.each c.in_ok-push.ensures.items;
}
