-- What joins the agents of a specification. All its signal lists are numbered: first the `signallist`s in the order of
-- the text, then what each path of a channel carries, then two of each process, what it names and its timers.
use Rattle.std.specs.Prelude.{◌++◌, ◌==◌, ℕ, ◌+◌, Bool, List, flat_map, length, map}
use Rattle.build_definitions.specs.Definitions.{Rows}
use Rattle.build_definitions.specs.declared.symbols.symbol_table.SymbolTable.{SymbolTable}
use Rattle.build_network.specs.Agents.{block_names}
use Rattle.build_network.specs.Connects.{Connect, connect_faults, connects_of}
use Rattle.build_network.specs.Lists.{list_at, list_faults}
use Rattle.build_network.specs.Numbered.{numbered}
use Rattle.build_network.specs.Paths.{Placed, carried, channel_paths, numbers_from, path_faults, paths_from}
use Rattle.build_network.specs.Processes.{process_lists, processes_faults, processes_from}
use Rattle.build_routes.specs.declared.network.list.Item.{Item}
use Rattle.build_routes.specs.declared.network.joined.Block.{Block}
use Rattle.build_routes.specs.declared.network.joined.ChannelPath.{ChannelPath}
use Rattle.build_routes.specs.declared.network.joined.Process.{Process}
use Rattle.build_names.specs.Faults.{Diagnostic}
use Rattle.build_names.specs.Spaces.{names_of}
use Rattle.build_names.specs.declared.scopes.scope.ScopeId.{ScopeId}
use Rattle.build_names.specs.declared.scopes.scope.ScopeId.TheVariants as scope
use Rattle.sdl_tree.specs.Tree.{BlockDefinition}

-- ---- scopes without any channel

abbrev pub has_no_channel : SymbolTable → ScopeId → Bool
has_no_channel symbols scope = length (names_of symbols.channels scope) == 0

abbrev pub block_at : SymbolTable → ℕ → BlockDefinition → Block
block_at symbols number block = record { is_implied = has_no_channel symbols (scope.Block (record { 0 = number })) }

abbrev pub blocks_in : SymbolTable → List BlockDefinition → List Block
blocks_in symbols blocks = numbered (block_at symbols) 0 blocks

-- ---- the whole

abbrev pub all_paths : Rows → List Placed
all_paths rows = flat_map channel_paths rows.channels

abbrev pub network_lists : Rows → SymbolTable → List (List Item)
network_lists rows symbols =
    map (list_at symbols rows.processes) rows.lists
    ++ (map (carried symbols (block_names rows.blocks)) (all_paths rows)
    ++ process_lists symbols rows.processes)

abbrev pub network_paths : Rows → SymbolTable → List ChannelPath
network_paths rows symbols =
    paths_from symbols (block_names rows.blocks) (length rows.lists) (all_paths rows)

abbrev pub network_processes : Rows → List Process
network_processes rows = processes_from (length rows.lists + length (all_paths rows)) rows.processes

abbrev pub network_connects : Rows → SymbolTable → List Connect
network_connects rows symbols =
    flat_map (connects_of symbols (numbers_from 0 rows.channels)) rows.connections

-- the names that stand for nothing: in signal lists, in channels, in signal sets and in connects
abbrev pub network_faults : Rows → SymbolTable → List Diagnostic
network_faults rows symbols =
    flat_map (list_faults symbols rows.processes) rows.lists
    ++ (flat_map (path_faults symbols (block_names rows.blocks)) (all_paths rows)
    ++ (processes_faults symbols rows.processes
    ++ flat_map (connect_faults symbols) rows.connections))
