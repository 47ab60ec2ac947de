use Rattle.std.proofs.Common.{get_or}
use Rattle.std.proofs.lemmas.Option.{slice_get-get_or}
use Rattle.build_routes.specs.SignalLists.{EntryStep}
use Rattle.build_routes.specs.declared.network.list.Item.TheVariants as item
use Rattle.build_routes.proofs.EachLemmas.{adds_all, adds_each}
use Rattle.build_routes.proofs.network.signal_sets.add_entries.Goals as goal

pub loop-entry-preserved : goal.loop-entry-preserved
loop-entry-preserved c =
    adds_each c.args.entries.now c.loop-entry.entry-index (get_or c.args.entries.now c.loop-entry.entry-index (item.Signal (record { 0 = 0 })))
    (λ j entry. EntryStep c.args.list entry)
    c.args.graph.now.rows.items c.loop-entry.graph.rows.items c.add_entry.new.graph.rows.items
    (slice_get-get_or c.args.entries.now c.loop-entry.entry-index (item.Signal (record { 0 = 0 })) c.loop-entry-test.true)
    c.loop-entry.invariant c.in_ok-add_entry.ensures

pub returns : goal.returns
returns c =
    adds_all c.args.entries.now c.loop-entry.entry-index (λ j entry. EntryStep c.args.list entry)
    c.args.graph.now.rows.items c.loop-entry.graph.rows.items c.loop-entry-test.false c.loop-entry.invariant
