use Rattle.std.proofs.Common.{ℕ, ◌<◌}
use Rattle.std.specs.List.{Contains}
use Rattle.build_routes.specs.Mask.{Has}
use Rattle.build_routes.proofs.network.graph.begun.Given as goal

abbrev pub invariant-loop-node : goal.invariant-loop-node
invariant-loop-node l = (n k : ℕ) → n < l.node → Has l.start n k → Contains l.nodes.items n
