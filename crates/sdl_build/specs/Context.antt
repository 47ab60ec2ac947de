-- What the definitions of a specification come to: what it defines, what its names stand for, the constants of its
-- synonyms, and what joins its agents.
use Rattle.std.specs.Prelude.{◌≡◌, List, length, map}
use Rattle.port_model.specs.declared.values.item.SignalId.{SignalId}
use Rattle.sdl_build.specs.Lists.{AreMembers}
use Rattle.build_definitions.specs.Parts.{parts_in}
use Rattle.build_definitions.specs.Definitions.{Rows, rows_in}
use Rattle.build_constants.specs.Synonyms.{AreSynonymConstants}
use Rattle.build_definitions.specs.Spaces.{AreNamesOf}
use Rattle.build_definitions.specs.declared.symbols.symbol_table.SymbolTable.{SymbolTable}
use Rattle.build_network.specs.Connects.{connect_value}
use Rattle.build_network.specs.Network.{blocks_in, has_no_channel, network_connects, network_lists, network_paths, network_processes}
use Rattle.build_network.specs.Seen.{list_items}
use Rattle.build_routes.specs.Table.{AreRoutes}
use Rattle.build_routes.specs.declared.network.joined.Network.{Network}
use Rattle.build_expressions.specs.declared.scope.Constant.{Constant}
use Rattle.build_names.specs.declared.scopes.scope.ScopeId.TheVariants as scope
use Rattle.sdl_system.specs.declared.route.Routes.{Routes}
use Rattle.sdl_tree.specs.Tree.{Tree}

-- what joins the agents
pub record IsNetwork (rows : Rows) (symbols : SymbolTable) (network : Network) : Type 0 where
  pub signals : network.signals ≡ length rows.signals
  pub lists : map list_items network.lists.items ≡ network_lists rows symbols
  pub is_implied : network.is_implied ≡ has_no_channel symbols scope.System
  pub processes : network.processes.items ≡ network_processes rows
  pub blocks : network.blocks.items ≡ blocks_in symbols rows.blocks
  pub paths : network.paths.items ≡ network_paths rows symbols
  pub connects : map connect_value network.connects.items ≡ network_connects rows symbols

-- what a specification defines, what its names stand for, and what each synonym comes to
pub record Resolved : Type 0 where
  pub rows : Rows
  pub symbols : SymbolTable
  pub constants : List Constant

pub record IsResolved (tree : Tree) (resolved : Resolved) : Type 0 where
  pub rows : resolved.rows ≡ rows_in (parts_in tree)
  pub names : AreNamesOf resolved.rows resolved.symbols
  pub constants : AreSynonymConstants resolved.rows resolved.symbols resolved.constants

pub record Context : Type 0 where
  pub rows : Rows
  pub symbols : SymbolTable
  pub constants : List Constant
  pub network : Network
  pub routes : Routes
  -- the signals that each signal list stands for
  pub members : List (List SignalId)

abbrev pub resolved_of : Context → Resolved
resolved_of context =
    record { rows = context.rows; symbols = context.symbols; constants = context.constants }

-- what joins the agents of these definitions
pub record AreConnections (context : Context) : Type 0 where
  pub network : IsNetwork context.rows context.symbols context.network
  pub routes : AreRoutes context.network context.routes
  pub members : AreMembers context.network (length context.rows.lists) context.members
