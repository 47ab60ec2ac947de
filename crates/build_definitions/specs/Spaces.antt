-- The names of a specification, by their name spaces.
use Rattle.build_definitions.specs.Definitions.{Rows}
use Rattle.build_definitions.specs.Entries.{Has, HasMeant}
use Rattle.build_definitions.specs.Meanings.{agent_entries, channel_entries, label_entries, list_entries, signal_entries, state_entries, value_entries}
use Rattle.build_definitions.specs.declared.symbols.symbol_table.SymbolTable.{SymbolTable}
use Rattle.build_expressions.specs.Scope.{agent_meaning, signal_meaning}

-- each scope has just the names that these rows give it, each with what it stands for
pub record AreNamesOf (rows : Rows) (names : SymbolTable) : Type 0 where
  pub signals : HasMeant signal_meaning names.signals (signal_entries rows)
  pub lists : Has names.lists (list_entries rows)
  pub channels : Has names.channels (channel_entries rows)
  pub agents : HasMeant agent_meaning names.agents (agent_entries rows)
  pub values : Has names.values (value_entries rows)
  pub labels : Has names.labels (label_entries rows)
  pub states : Has names.states (state_entries rows)
