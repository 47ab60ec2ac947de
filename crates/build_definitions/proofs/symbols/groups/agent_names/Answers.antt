use Rattle.build_definitions.specs.Definitions.{rows_of}
use Rattle.build_definitions.proofs.EntryLemmas.{noted-then}
use Rattle.build_definitions.specs.Entries.{duplicates, standings}
use Rattle.build_definitions.specs.Meanings.{agent_entries, channel_entries}
use Rattle.build_definitions.proofs.symbols.groups.agent_names.Goals as goal

pub returns-clause-noted : goal.returns-clause-noted
returns-clause-noted c =
    let rows = rows_of c.args.definitions.now in
    noted-then c.args.faults.now c.declare_channels.new.faults c.declare_agents.new.faults
    (duplicates (standings (channel_entries rows))) (duplicates (standings (agent_entries rows)))
    c.in_ok-channels.ensures.noted c.in_ok-agents.ensures.noted
