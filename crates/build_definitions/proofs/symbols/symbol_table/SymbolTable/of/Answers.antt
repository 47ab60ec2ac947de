use Rattle.std.proofs.Common.{◌++◌, subst, sym}
use Rattle.build_definitions.specs.Definitions.{rows_of}
use Rattle.build_definitions.proofs.EntryLemmas.{noted-both}
use Rattle.build_definitions.specs.Entries.{Has, HasMeant, duplicates, standings}
use Rattle.build_definitions.specs.Meanings.{agent_entries, channel_entries, label_entries, list_entries, signal_entries, state_entries, value_entries}
use Rattle.build_expressions.specs.Scope.{agent_meaning, signal_meaning}
use Rattle.build_definitions.proofs.symbols.symbol_table.SymbolTable.of.Goals as goal

pub returns-clause-noted : goal.returns-clause-noted
returns-clause-noted c =
    let rows = rows_of c.args.definitions.now in
    let signals = duplicates (standings (signal_entries rows)) in
    let lists = duplicates (standings (list_entries rows)) in
    let channels = duplicates (standings (channel_entries rows)) in
    let agents = duplicates (standings (agent_entries rows)) in
    let values = duplicates (standings (value_entries rows)) in
    let labels = duplicates (standings (label_entries rows)) in
    let start = c.args.faults.now in
    let mid = c.agent_names.new.faults in
    noted-both start mid c.body_names.new.faults (signals ++ lists ++ channels ++ agents) values labels
    (noted-both start c.signal_names.new.faults mid (signals ++ lists) channels agents
    c.in_ok-signals.ensures.noted c.in_ok-agents.ensures.noted)
    c.in_ok-bodies.ensures.noted

pub returns-clause-names : goal.returns-clause-names
returns-clause-names c =
    let rows = rows_of c.args.definitions.now in
    let same = c.together.ensures in
    record {
      signals =
          subst (λ names. HasMeant signal_meaning names (signal_entries rows))
          (sym same.signals) c.in_ok-signals.ensures.signals;
      lists =
          subst (λ names. Has names (list_entries rows)) (sym same.lists) c.in_ok-signals.ensures.lists;
      channels =
          subst (λ names. Has names (channel_entries rows)) (sym same.channels) c.in_ok-agents.ensures.channels;
      agents =
          subst (λ names. HasMeant agent_meaning names (agent_entries rows))
          (sym same.agents) c.in_ok-agents.ensures.agents;
      values =
          subst (λ names. Has names (value_entries rows)) (sym same.values) c.in_ok-bodies.ensures.values;
      labels =
          subst (λ names. Has names (label_entries rows)) (sym same.labels) c.in_ok-bodies.ensures.labels;
      states =
          subst (λ names. Has names (state_entries rows)) (sym same.states) c.in_ok-bodies.ensures.states;
    }
