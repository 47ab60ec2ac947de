-- The connects of blocks (Z.101: channel connection): each joins all paths of the channels that it names.
use Rattle.std.specs.Prelude.{◌++◌, ℕ, List, [], ◌∷◌, Option, None, Some, flat_map, is_none, slice_get}
use Rattle.build_definitions.specs.Rows.{ConnectionRow}
use Rattle.build_definitions.specs.declared.entries.ChannelId.{ChannelId}
use Rattle.build_definitions.specs.declared.symbols.symbol_table.SymbolTable.{SymbolTable}
use Rattle.build_network.specs.Seen.{listed}
use Rattle.build_network.specs.declared.paths.ChannelPaths.{ChannelPaths}
use Rattle.build_routes.specs.declared.network.joined.Connect as routes
use Rattle.build_routes.specs.declared.network.joined.PathId.{PathId}
use Rattle.build_names.specs.Faults.{Diagnostic, fault_if}
use Rattle.build_names.specs.Names.{first_of}
use Rattle.build_names.specs.declared.faults.fault.Rule.TheVariants.{Unknown}
use Rattle.build_names.specs.Spaces.{names_of}
use Rattle.build_names.specs.declared.scopes.scope.ScopeId.{ScopeId}
use Rattle.build_names.specs.declared.scopes.scope.ScopeId.TheVariants as scope
use Rattle.sdl_system.specs.declared.id.BlockId.{BlockId}
use Rattle.sdl_tree.specs.Tree.{Connection}
use Rattle.sdl_tree.specs.Words.{Spot}

pub record Connect : Type 0 where
  pub block : BlockId
  pub outer : List PathId
  pub inner : List PathId

abbrev pub connect_value : routes.Connect → Connect
connect_value connect = record { block = connect.block; outer = connect.outer.items; inner = connect.inner.items }

abbrev pub ids_of : Option ChannelPaths → List PathId
ids_of None = []
ids_of (Some paths) = paths.first ∷ listed paths.second

abbrev pub numbers_at : List ChannelPaths → Option ChannelId → Option ChannelPaths
numbers_at numbers None = None
numbers_at numbers (Some channel) = slice_get numbers channel.0

-- the paths of the channel of this name in this scope
abbrev pub named_paths : List ChannelPaths → List (List ℕ × ChannelId) → Spot → List PathId
named_paths numbers channels name = ids_of (numbers_at numbers (first_of channels name.text))

abbrev pub channel_faults : List (List ℕ × ChannelId) → Spot → List Diagnostic
channel_faults channels name = fault_if (is_none (first_of channels name.text)) Unknown name

-- the first names are those of channels of the system, the others of the block
abbrev pub connect_in : SymbolTable → List ChannelPaths → BlockId → Connection → Connect
connect_in symbols numbers block connection = record {
  block = block;
  outer = flat_map (named_paths numbers (names_of symbols.channels scope.System)) connection.outer;
  inner = flat_map (named_paths numbers (names_of symbols.channels (scope.Block block))) connection.inner;
}

-- a connect stands in a block alone
abbrev pub connects_at : SymbolTable → List ChannelPaths → ScopeId → Connection → List Connect
connects_at symbols numbers scope.System connection = []
connects_at symbols numbers (scope.Block block) connection = connect_in symbols numbers block connection ∷ []
connects_at symbols numbers (scope.Process process) connection = []

abbrev pub connects_of : SymbolTable → List ChannelPaths → ConnectionRow → List Connect
connects_of symbols numbers row = connects_at symbols numbers row.scope row.definition

-- the names that are no channel's
abbrev pub connect_faults : SymbolTable → ConnectionRow → List Diagnostic
connect_faults symbols row =
    flat_map (channel_faults (names_of symbols.channels scope.System)) row.definition.outer
    ++ flat_map (channel_faults (names_of symbols.channels row.scope)) row.definition.inner
