use Rattle.build_definitions.specs.Definitions.{rows_of}
use Rattle.build_definitions.proofs.EntryLemmas.{noted-then}
use Rattle.build_definitions.specs.Entries.{duplicates, standings}
use Rattle.build_definitions.specs.Meanings.{label_entries, value_entries}
use Rattle.build_definitions.proofs.symbols.groups.body_names.Goals as goal

pub returns-clause-noted : goal.returns-clause-noted
returns-clause-noted c =
    let rows = rows_of c.args.definitions.now in
    noted-then c.args.faults.now c.declare_values.new.faults c.declare_labels.new.faults
    (duplicates (standings (value_entries rows))) (duplicates (standings (label_entries rows)))
    c.in_ok-values.ensures.noted c.in_ok-labels.ensures.noted
