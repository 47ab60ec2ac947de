-- What the names of a specification stand for, where its tables have these rows.
use Rattle.std.specs.Prelude.{ℕ, ◌+◌, ◌++◌, List, [], ◌∷◌, Option, None, Some, is_some, map, slice_get}
use Rattle.build_definitions.specs.Rows.{AgentRow, ChannelRow, LabelRow, ProcessRow, SignalKind, OrdinarySignal, OrdinaryTimer, SignalListRow, SignalRow, StateRow, ValueRow}
use Rattle.build_definitions.specs.Definitions.{Rows}
use Rattle.build_definitions.specs.declared.entries.Agent.{Agent}
use Rattle.build_definitions.specs.declared.entries.Agent.TheVariants as agent
use Rattle.build_definitions.specs.declared.entries.ChannelId.{ChannelId}
use Rattle.build_definitions.specs.declared.entries.SignalListId.{SignalListId}
use Rattle.build_definitions.specs.Entries.{Entry, duplicates, standings}
use Rattle.build_names.specs.Faults.{Diagnostic}
use Rattle.build_expressions.specs.Scope as meant
use Rattle.build_expressions.specs.declared.scope.ValueEntry.{ValueEntry}
use Rattle.build_names.specs.declared.scopes.scope.ScopeId.TheVariants as scope
use Rattle.sdl_system.specs.declared.id.LabelId.{LabelId}
use Rattle.sdl_system.specs.declared.id.ProcessId.{ProcessId}
use Rattle.sdl_system.specs.declared.id.StateId.{StateId}
use Rattle.sdl_system.specs.declared.sort.Sort.{Sort}

-- ---- signals and timers, numbered together

abbrev pub signal_means : ℕ → List (Option Sort) → SignalKind → meant.SignalMeaning
signal_means number sorts OrdinarySignal = meant.signal (record { 0 = number }) sorts
signal_means number sorts (OrdinaryTimer duration) = meant.timer (record { 0 = number }) sorts (is_some duration)

abbrev pub signal_entry : ℕ → SignalRow → Entry meant.SignalMeaning
signal_entry number row =
    record { scope = row.scope; name = row.name; what = signal_means number row.sorts row.kind }

abbrev pub signals_from : ℕ → List SignalRow → List (Entry meant.SignalMeaning)
signals_from number [] = []
signals_from number (row ∷ rows) = signal_entry number row ∷ signals_from (number + 1) rows

abbrev pub signal_entries : Rows → List (Entry meant.SignalMeaning)
signal_entries rows = signals_from 0 rows.signals

-- ---- signal lists

abbrev pub list_entry : ℕ → SignalListRow → Entry SignalListId
list_entry number row = record { scope = row.scope; name = row.definition.name; what = record { 0 = number } }

abbrev pub lists_from : ℕ → List SignalListRow → List (Entry SignalListId)
lists_from number [] = []
lists_from number (row ∷ rows) = list_entry number row ∷ lists_from (number + 1) rows

abbrev pub list_entries : Rows → List (Entry SignalListId)
list_entries rows = lists_from 0 rows.lists

-- ---- channels

abbrev pub channel_entry : ℕ → ChannelRow → Entry ChannelId
channel_entry number row = record { scope = row.scope; name = row.definition.name; what = record { 0 = number } }

abbrev pub channels_from : ℕ → List ChannelRow → List (Entry ChannelId)
channels_from number [] = []
channels_from number (row ∷ rows) = channel_entry number row ∷ channels_from (number + 1) rows

abbrev pub channel_entries : Rows → List (Entry ChannelId)
channel_entries rows = channels_from 0 rows.channels

-- ---- blocks and processes

abbrev pub sorts_of_row : Option ProcessRow → List (Option Sort)
sorts_of_row None = []
sorts_of_row (Some row) = row.sorts

-- the sorts of the formal parameters of a process
abbrev pub sorts_of : List ProcessRow → ProcessId → List (Option Sort)
sorts_of processes number = sorts_of_row (slice_get processes number.0)

abbrev pub agent_means : List ProcessRow → Agent → meant.AgentMeaning
agent_means processes (agent.Block number) = meant.block
agent_means processes (agent.Process number) = meant.process number (sorts_of processes number)

abbrev pub agent_entry : List ProcessRow → AgentRow → Entry meant.AgentMeaning
agent_entry processes row =
    record { scope = row.scope; name = row.name; what = agent_means processes row.agent }

abbrev pub agent_entries : Rows → List (Entry meant.AgentMeaning)
agent_entries rows = map (agent_entry rows.processes) rows.agents

-- ---- variables, formal parameters and synonyms

abbrev pub value_entry : ValueRow → Entry ValueEntry
value_entry row = record { scope = row.scope; name = row.name; what = row.entry }

abbrev pub value_entries : Rows → List (Entry ValueEntry)
value_entries rows = map value_entry rows.values

-- ---- labels and states of processes

abbrev pub label_entry : LabelRow → Entry LabelId
label_entry row = record { scope = scope.Process row.process; name = row.name; what = row.number }

abbrev pub label_entries : Rows → List (Entry LabelId)
label_entries rows = map label_entry rows.labels

abbrev pub state_entry : StateRow → Entry StateId
state_entry row = record { scope = scope.Process row.process; name = row.name; what = row.number }

abbrev pub state_entries : Rows → List (Entry StateId)
state_entries rows = map state_entry rows.states

-- ---- names that are declared twice, by their name spaces; a state may be named again

abbrev pub duplicate_faults : Rows → List Diagnostic
duplicate_faults rows =
    duplicates (standings (signal_entries rows))
    ++ duplicates (standings (list_entries rows))
    ++ duplicates (standings (channel_entries rows))
    ++ duplicates (standings (agent_entries rows))
    ++ duplicates (standings (value_entries rows))
    ++ duplicates (standings (label_entries rows))
