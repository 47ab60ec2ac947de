-- What the code keeps of what the definitions of a specification come to.
use Rattle.std.specs.Prelude.{◌≡◌}
use Rattle.sdl_build.specs.Context.{Resolved, IsNetwork, Context}
use Rattle.sdl_build.specs.declared.context.connections.Connections.{Connections}
use Rattle.build_definitions.specs.Definitions.{Rows, rows_of}
use Rattle.build_definitions.specs.declared.definitions.Definitions.{Definitions}
use Rattle.build_constants.specs.ConstantTable.{all_counts, all_durations, all_initials}
use Rattle.build_constants.specs.declared.constant_table.ConstantTable.{ConstantTable}
use Rattle.build_definitions.specs.declared.symbols.symbol_table.SymbolTable.{SymbolTable}
use Rattle.build_states.specs.Context.{listed_members}

abbrev pub context_of : Definitions → SymbolTable → ConstantTable → Connections → Context
context_of definitions symbols constant_table connections = record {
  rows = rows_of definitions;
  symbols = symbols;
  constants = constant_table.constants.items;
  network = connections.network;
  routes = connections.routes;
  members = listed_members connections.members.items;
}

-- the definitions of which this is kept
abbrev pub resolved_with : Definitions → SymbolTable → ConstantTable → Resolved
resolved_with definitions symbols constant_table =
    record { rows = rows_of definitions; symbols = symbols; constants = constant_table.constants.items }

-- the constants are those of these definitions
pub record IsConstantTable (rows : Rows) (symbols : SymbolTable) (constant_table : ConstantTable) : Type 0 where
  pub counts : constant_table.counts.items ≡ all_counts rows symbols constant_table.constants.items
  pub initials : constant_table.initials.items ≡ all_initials rows symbols constant_table.constants.items
  pub durations : constant_table.durations.items ≡ all_durations rows symbols constant_table.constants.items

-- what is kept fits together
pub record AreKnown (definitions : Definitions) (symbols : SymbolTable) (constant_table : ConstantTable)
    (connections : Connections) : Type 0 where
  pub is_constant_table : IsConstantTable (rows_of definitions) symbols constant_table
  pub is_network : IsNetwork (rows_of definitions) symbols connections.network
