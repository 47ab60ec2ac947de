use Rattle.build_definitions.specs.Definitions.{rows_of}
use Rattle.build_definitions.proofs.EntryLemmas.{noted-then}
use Rattle.build_definitions.specs.Entries.{duplicates, standings}
use Rattle.build_definitions.specs.Meanings.{list_entries, signal_entries}
use Rattle.build_definitions.proofs.symbols.groups.signal_names.Goals as goal

pub returns-clause-noted : goal.returns-clause-noted
returns-clause-noted c =
    let rows = rows_of c.args.definitions.now in
    noted-then c.args.faults.now c.declare_signals.new.faults c.declare_lists.new.faults
    (duplicates (standings (signal_entries rows))) (duplicates (standings (list_entries rows)))
    c.in_ok-signals.ensures.noted c.in_ok-lists.ensures.noted
