use Rattle.build_routes.specs.Each.{ForSomeBelow}
use Rattle.build_routes.specs.Graph.{Adds}
use Rattle.build_routes.specs.SignalLists.{EntrySteps}
use Rattle.build_routes.proofs.network.signal_sets.add_lists.Given as goal

abbrev pub invariant-loop-number : goal.invariant-loop-number
invariant-loop-number l = Adds (λ from step. ForSomeBelow l.lists l.number (λ list named. EntrySteps list named.items.items from step))
    l.fn.graph.rows.items l.graph.rows.items
