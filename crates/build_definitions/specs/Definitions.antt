-- The definitions of a specification, in tables.
use Rattle.std.specs.Prelude.{List, Option, None, Some, flat_map, map, slice_get}
use Rattle.build_definitions.specs.Parts.{Placed}
use Rattle.build_definitions.specs.Rows.{AgentRow, ChannelRow, ConnectionRow, LabelRow, ProcessRow, SignalListRow, SignalRow, SignalSetRow, StateRow, SynonymRow, ValueRow, placed_agents, placed_blocks, placed_channels, placed_connections, placed_labels, placed_processes, placed_signal_lists, placed_signal_sets, placed_signals, placed_states, placed_synonyms, value_rows}
use Rattle.build_definitions.specs.Seen.{agent_seen, block_seen, channel_seen, connection_seen, label_seen, process_seen, signal_list_seen, signal_seen, signal_set_seen, state_seen, synonym_seen, value_seen}
use Rattle.build_definitions.specs.declared.definitions.Definitions.{Definitions}
use Rattle.build_names.specs.declared.scopes.scope.ScopeId.{ScopeId}
use Rattle.build_names.specs.declared.scopes.scope.ScopeId.TheVariants as scope
use Rattle.build_names.specs.declared.scopes.scope.ScopePath.{ScopePath}
use Rattle.sdl_system.specs.declared.id.BlockId.{BlockId}
use Rattle.sdl_tree.specs.Tree.{BlockDefinition}

-- all that a specification defines
pub record Rows : Type 0 where
  pub blocks : List BlockDefinition
  pub processes : List ProcessRow
  pub agents : List AgentRow
  pub signals : List SignalRow
  pub lists : List SignalListRow
  pub channels : List ChannelRow
  pub connections : List ConnectionRow
  pub signal_sets : List SignalSetRow
  pub synonyms : List SynonymRow
  pub values : List ValueRow
  pub labels : List LabelRow
  pub states : List StateRow

-- where the definitions are these
abbrev pub rows_in : List Placed → Rows
rows_in parts = record {
  blocks = flat_map placed_blocks parts;
  processes = flat_map placed_processes parts;
  agents = flat_map placed_agents parts;
  signals = flat_map placed_signals parts;
  lists = flat_map placed_signal_lists parts;
  channels = flat_map placed_channels parts;
  connections = flat_map placed_connections parts;
  signal_sets = flat_map placed_signal_sets parts;
  synonyms = flat_map placed_synonyms parts;
  values = value_rows 0 0 parts;
  labels = flat_map placed_labels parts;
  states = flat_map placed_states parts;
}

-- what the tables keep
abbrev pub rows_of : Definitions → Rows
rows_of definitions = record {
  blocks = map block_seen definitions.blocks.items;
  processes = map process_seen definitions.processes.items;
  agents = map agent_seen definitions.agents.items;
  signals = map signal_seen definitions.signals.items;
  lists = map signal_list_seen definitions.lists.items;
  channels = map channel_seen definitions.channels.items;
  connections = map connection_seen definitions.connections.items;
  signal_sets = map signal_set_seen definitions.signal_sets.items;
  synonyms = map synonym_seen definitions.synonyms.items;
  values = map value_seen definitions.values.items;
  labels = map label_seen definitions.labels.items;
  states = map state_seen definitions.states.items;
}

-- the block of a scope, if it is one
abbrev pub block_of : ScopeId → Option BlockId
block_of scope.System = None
block_of (scope.Block number) = Some number
block_of (scope.Process number) = None

-- the block that a process stands in, if it stands in one
abbrev pub block_round : Option ProcessRow → Option BlockId
block_round None = None
block_round (Some process) = block_of process.scope

-- the scopes round the inside of a scope, where the processes are these
abbrev pub path_of : List ProcessRow → ScopeId → ScopePath
path_of processes scope.System = record { process = None; block = None }
path_of processes (scope.Block number) = record { process = None; block = Some number }
path_of processes (scope.Process number) =
    record { process = Some number; block = block_round (slice_get processes number.0) }
