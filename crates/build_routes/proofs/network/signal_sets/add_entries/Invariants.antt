use Rattle.build_routes.specs.Each.{ForSomeBelow}
use Rattle.build_routes.specs.Graph.{Adds}
use Rattle.build_routes.specs.SignalLists.{EntryStep}
use Rattle.build_routes.proofs.network.signal_sets.add_entries.Given as goal

abbrev pub invariant-loop-entry : goal.invariant-loop-entry
invariant-loop-entry l = Adds (λ from step. ForSomeBelow l.entries l.entry-index (λ j entry. EntryStep l.list entry from step))
    l.fn.graph.rows.items l.graph.rows.items
