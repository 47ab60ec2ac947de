use Rattle.std.proofs.Common.{length, refl, subst}
use Rattle.std.proofs.lemmas.Option.{slice_get_read}
use Rattle.build_routes.specs.Graph.{Adds}
use Rattle.build_routes.specs.SignalLists.{EntrySteps}
use Rattle.build_routes.proofs.EachLemmas.{adds_all, adds_each}
use Rattle.build_routes.proofs.network.signal_sets.add_lists.Goals as goal

pub loop-number-preserved : goal.loop-number-preserved
loop-number-preserved c =
    let number = c.loop-number.number in
    adds_each c.args.lists.now number c.index-lists-number.result (λ list named. EntrySteps list named.items.items)
    c.args.graph.now.rows.items c.loop-number.graph.rows.items c.add_entries.new.graph.rows.items
    (slice_get_read c.args.lists.now (length c.args.lists.now) number c.index-lists-number.result refl c.loop-number-test.true c.index-lists-number.is)
    c.loop-number.invariant
    (subst (λ x. Adds (EntrySteps number x) c.loop-number.graph.rows.items c.add_entries.new.graph.rows.items) c.deref.ensures.value c.in_ok-add_entries.ensures)

pub returns : goal.returns
returns c =
    adds_all c.args.lists.now c.loop-number.number (λ list named. EntrySteps list named.items.items)
    c.args.graph.now.rows.items c.loop-number.graph.rows.items c.loop-number-test.false c.loop-number.invariant
