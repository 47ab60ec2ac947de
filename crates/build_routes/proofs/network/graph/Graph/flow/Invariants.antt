use Rattle.std.proofs.Common.{◌+◌}
use Rattle.std.specs.Vec.{vec_len}
use Rattle.build_routes.specs.Passing.{IsFlowing, missing}
use Rattle.build_routes.proofs.network.graph.Graph.flow.Given as goal

abbrev pub invariant-loop-node : goal.invariant-loop-node
invariant-loop-node l = IsFlowing l.self.rows.items l.column l.fn.start.items l.reached.items l.waiting.items

abbrev pub decreases-loop-node : goal.decreases-loop-node
decreases-loop-node l = missing l.reached.items + vec_len l.waiting
