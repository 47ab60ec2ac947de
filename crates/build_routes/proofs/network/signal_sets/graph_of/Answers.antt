use Rattle.std.proofs.Common.{inl, inr}
use Rattle.build_routes.proofs.network.signal_sets.graph_of.Goals as goal

pub returns : goal.returns
returns c = λ from step. (
  λ leads. elim (c.in_ok-add_lists.ensures.just from step leads) [ inl old ↦ absurd (c.new-graph.ensures from step old) | inr new ↦ new ],
  λ new. c.in_ok-add_lists.ensures.made from step new,
)
