-- What a state of a process does with a signal.
use Rattle.std.specs.Prelude.{Option, None, Some, slice_get}
use Rattle.port_model.specs.declared.values.item.SignalId.{SignalId}
use Rattle.sdl_system.specs.Signal.{is_member}
use Rattle.sdl_system.specs.State.{choice_of, named_reaction, or_rest}
use Rattle.sdl_system.specs.declared.id.StateId.{StateId}
use Rattle.sdl_system.specs.declared.process.Process.{Process}
use Rattle.sdl_system.specs.declared.process.State as state
use Rattle.sdl_system.specs.declared.state.Choice.{Choice}
use Rattle.sdl_system.specs.declared.state.Reaction.{Reaction}
use Rattle.sdl_system.specs.declared.state.StateTable.{StateTable}

-- the table of a state
abbrev pub table_in : Process → Option state.State → Option StateTable
table_in process None = None
table_in process (Some one) = slice_get process.tables.items one.table.0

abbrev pub table_of : Process → StateId → Option StateTable
table_of process number = table_in process (slice_get process.states.items number.0)

-- what the states of a table do with a signal: what they say of it by name, else what an asterisk says of the valid
-- input set
abbrev pub reaction_by : Process → Option StateTable → SignalId → Option Reaction
reaction_by process None signal = None
reaction_by process (Some table) signal =
    or_rest (named_reaction table.reactions signal) (is_member process.valid signal) table.rest

-- the class of a signal in the states of a table, and the condition without which it waits
abbrev pub choice_in : Process → StateTable → SignalId → Choice
choice_in process table signal = choice_of (reaction_by process (Some table) signal)

-- what a state does with a signal
abbrev pub reaction_in : Process → StateId → SignalId → Option Reaction
reaction_in process number signal = reaction_by process (table_of process number) signal
