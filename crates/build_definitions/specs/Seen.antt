-- What the entries of the tables stand for.
use Rattle.std.specs.Prelude.{option_map}
use Rattle.build_definitions.specs.Rows as rows
use Rattle.build_definitions.specs.declared.entries.AgentEntry.{AgentEntry}
use Rattle.build_definitions.specs.declared.entries.BlockEntry.{BlockEntry}
use Rattle.build_definitions.specs.declared.entries.ChannelEntry.{ChannelEntry}
use Rattle.build_definitions.specs.declared.entries.ConnectionEntry.{ConnectionEntry}
use Rattle.build_definitions.specs.declared.entries.LabelEntry.{LabelEntry}
use Rattle.build_definitions.specs.declared.entries.ProcessEntry.{ProcessEntry}
use Rattle.build_definitions.specs.declared.entries.SignalEntry.{SignalEntry}
use Rattle.build_definitions.specs.declared.entries.SignalKind.{SignalKind}
use Rattle.build_definitions.specs.declared.entries.SignalListEntry.{SignalListEntry}
use Rattle.build_definitions.specs.declared.entries.SignalSetEntry.{SignalSetEntry}
use Rattle.build_definitions.specs.declared.entries.StateEntry.{StateEntry}
use Rattle.build_definitions.specs.declared.entries.SynonymEntry.{SynonymEntry}
use Rattle.build_definitions.specs.declared.entries.ValueName.{ValueName}
use Rattle.build_definitions.specs.declared.entries.SignalKind.TheVariants as kind
use Rattle.sdl_tree.specs.Tree.{BlockDefinition}
use Rattle.sdl_tree.specs.Views.{block_value, process_value, channel_value, connection_value, expr_value, name_value, signal_list_value, synonym_value, signal_set_value}

abbrev pub block_seen : BlockEntry → BlockDefinition
block_seen entry = block_value entry.definition.now

abbrev pub process_seen : ProcessEntry → rows.ProcessRow
process_seen entry =
    record { scope = entry.scope; definition = process_value entry.definition.now; sorts = entry.sorts.items }

abbrev pub agent_seen : AgentEntry → rows.AgentRow
agent_seen entry = record { scope = entry.scope; name = name_value entry.name.now; agent = entry.agent }

abbrev pub kind_seen : SignalKind → rows.SignalKind
kind_seen kind.Signal = rows.OrdinarySignal
kind_seen (kind.Timer duration) = rows.OrdinaryTimer (option_map (λ value. expr_value value.now) duration)

abbrev pub signal_seen : SignalEntry → rows.SignalRow
signal_seen entry = record {
  scope = entry.scope;
  name = name_value entry.name.now;
  sorts = entry.sorts.items;
  kind = kind_seen entry.kind;
}

abbrev pub signal_list_seen : SignalListEntry → rows.SignalListRow
signal_list_seen entry = record { scope = entry.scope; definition = signal_list_value entry.definition.now }

abbrev pub channel_seen : ChannelEntry → rows.ChannelRow
channel_seen entry = record { scope = entry.scope; definition = channel_value entry.definition.now }

abbrev pub connection_seen : ConnectionEntry → rows.ConnectionRow
connection_seen entry = record { scope = entry.scope; definition = connection_value entry.definition.now }

abbrev pub signal_set_seen : SignalSetEntry → rows.SignalSetRow
signal_set_seen entry = record { scope = entry.scope; definition = signal_set_value entry.definition.now }

abbrev pub synonym_seen : SynonymEntry → rows.SynonymRow
synonym_seen entry =
    record { scope = entry.scope; sort = entry.sort; definition = synonym_value entry.definition.now }

abbrev pub value_seen : ValueName → rows.ValueRow
value_seen entry = record {
  scope = entry.scope;
  name = name_value entry.name.now;
  entry = entry.entry;
  initial = option_map (λ value. expr_value value.now) entry.initial;
}

abbrev pub label_seen : LabelEntry → rows.LabelRow
label_seen entry = record { process = entry.process; number = entry.number; name = name_value entry.name.now }

abbrev pub state_seen : StateEntry → rows.StateRow
state_seen entry = record { process = entry.process; number = entry.number; name = name_value entry.name.now }
