use Rattle.std.proofs.Common.{◌≡◌, ℕ, ◌+◌, ◌-◌, ◌≤◌}
use Rattle.std.specs.Vec.{vec_len}
use Rattle.build_routes.specs.Graph.{row}
use Rattle.build_routes.proofs.network.graph.Graph.cover.Given as goal

abbrev pub invariant-loop-alloc : goal.invariant-loop-alloc
invariant-loop-alloc l = record {
  same : (n : ℕ) → row l.self.rows.items n ≡ row l.fn.self.rows.items n;
  grown : vec_len l.fn.self.rows ≤ vec_len l.self.rows;
}

abbrev pub decreases-loop-alloc : goal.decreases-loop-alloc
decreases-loop-alloc l = l.node + 1 - vec_len l.self.rows
