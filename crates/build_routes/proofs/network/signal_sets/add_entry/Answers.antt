use Rattle.std.proofs.Common.{OnOk, sym, subst}
use Rattle.build_routes.specs.Graph.{Adds}
use Rattle.build_routes.specs.SignalLists.{EntryStep}
use Rattle.build_routes.proofs.network.signal_sets.add_entry.Goals as goal

pub returns-in-List : goal.returns-in-List
returns-in-List c =
    subst (λ e. OnOk c.add.result (Adds (EntryStep c.args.list e) c.args.graph.now.rows.items c.add.new.self.rows.items))
    (sym c.in-List.is) c.add.ensures
