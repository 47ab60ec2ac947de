-- The paths of channels (Z.101: channel). A path one of whose ends is unknown carries nothing.
use Rattle.std.specs.Prelude.{◌++◌, ◌&&◌, ℕ, ◌+◌, Bool, List, [], ◌∷◌, Option, None, Some, is_some, length, if◌then◌else◌}
use Rattle.std.specs.Option.{unwrap_or}
use Rattle.build_definitions.specs.Rows.{ChannelRow}
use Rattle.build_definitions.specs.Definitions.{path_of as scopes_round}
use Rattle.build_definitions.specs.declared.symbols.symbol_table.SymbolTable.{SymbolTable}
use Rattle.build_network.specs.Agents.{end_faults, end_in}
use Rattle.build_network.specs.Numbered.{numbered}
use Rattle.build_network.specs.Processes.{scope_of}
use Rattle.build_network.specs.Seen.{Seen, items_faults, items_in, seen_at}
use Rattle.build_network.specs.declared.paths.ChannelPaths.{ChannelPaths}
use Rattle.build_network.specs.declared.paths.PathEntry.{PathEntry}
use Rattle.build_routes.specs.declared.network.list.Item.{Item}
use Rattle.build_routes.specs.declared.network.joined.ChannelPath as routes
use Rattle.build_routes.specs.declared.network.joined.End.{End}
use Rattle.build_routes.specs.declared.network.joined.End.TheVariants as at
use Rattle.build_routes.specs.declared.network.joined.PathId.{PathId}
use Rattle.build_names.specs.Faults.{Diagnostic}
use Rattle.build_names.specs.Spaces.{names_of}
use Rattle.build_names.specs.declared.scopes.scope.ScopeId.{ScopeId}
use Rattle.sdl_system.specs.declared.id.BlockId.{BlockId}
use Rattle.sdl_tree.specs.Tree.{ChannelDefinition, ChannelEnd, ChannelPath, SignalListItem}
use Rattle.sdl_tree.specs.Views.{path_value}

-- a path, with the scope of its channel
pub record Placed : Type 0 where
  pub scope : ScopeId
  pub path : ChannelPath

abbrev pub placed_value : PathEntry → Placed
placed_value entry = record { scope = entry.scope; path = path_value entry.path.now }

abbrev pub second_path : ScopeId → Option ChannelPath → List Placed
second_path scope None = []
second_path scope (Some path) = record { scope = scope; path = path } ∷ []

-- the one or two paths of a channel
abbrev pub paths_in : ScopeId → ChannelDefinition → List Placed
paths_in scope channel = record { scope = scope; path = channel.first } ∷ second_path scope channel.second

abbrev pub channel_paths : ChannelRow → List Placed
channel_paths channel = paths_in channel.scope channel.definition

-- ---- their numbers, over the whole text

abbrev pub second_number : ℕ → Option ChannelPath → Option PathId
second_number number None = None
second_number number (Some path) = Some (record { 0 = number })

-- of a channel whose first path has this number
abbrev pub numbers_of : ℕ → ChannelRow → ChannelPaths
numbers_of number channel = record {
  first = record { 0 = number };
  second = second_number (number + 1) channel.definition.second;
}

abbrev pub numbers_from : ℕ → List ChannelRow → List ChannelPaths
numbers_from number [] = []
numbers_from number (channel ∷ channels) =
    numbers_of number channel ∷ numbers_from (number + length (channel_paths channel)) channels

-- ---- ends and signals

-- the items, if this holds
abbrev pub items_if : Bool → Seen → List SignalListItem → List Item
items_if is seen items = if is then items_in seen items else []

-- what is seen at a channel of this scope
abbrev pub seen_from : SymbolTable → ScopeId → Seen
seen_from symbols scope = seen_at symbols (scopes_round [] scope)

-- where names of agents stand for these
module _ (symbols : SymbolTable) (blocks : List (List ℕ × BlockId)) where
  abbrev pub path_end : ScopeId → ChannelEnd → Option End
  path_end scope end = end_in blocks (names_of symbols.agents scope) end

  abbrev pub has_ends : Placed → Bool
  has_ends placed = is_some (path_end placed.scope placed.path.from) && is_some (path_end placed.scope placed.path.to)

  -- what it carries
  abbrev pub carried : Placed → List Item
  carried placed = items_if (has_ends placed) (seen_from symbols placed.scope) placed.path.signals

  abbrev pub path_faults : Placed → List Diagnostic
  path_faults placed =
      end_faults blocks (names_of symbols.agents placed.scope) placed.path.from
      ++ (end_faults blocks (names_of symbols.agents placed.scope) placed.path.to
      ++ items_faults (seen_from symbols placed.scope) placed.path.signals)

  -- the path, where what it carries is the list of this number
  abbrev pub path_of : ℕ → Placed → routes.ChannelPath
  path_of list placed = record {
    scope = scope_of placed.scope;
    from = unwrap_or (path_end placed.scope placed.path.from) at.Env;
    to = unwrap_or (path_end placed.scope placed.path.to) at.Env;
    signals = record { 0 = list };
  }

  -- of the paths whose first list has this number
  abbrev pub paths_from : ℕ → List Placed → List routes.ChannelPath
  paths_from list paths = numbered path_of list paths
