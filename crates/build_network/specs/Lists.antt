-- What stands in a signal list that has a name (Z.101: signal list), by the names that are seen at its place.
use Rattle.std.specs.Prelude.{List}
use Rattle.build_definitions.specs.Rows.{ProcessRow, SignalListRow}
use Rattle.build_definitions.specs.Definitions.{path_of}
use Rattle.build_definitions.specs.declared.symbols.symbol_table.SymbolTable.{SymbolTable}
use Rattle.build_routes.specs.declared.network.list.Item.{Item}
use Rattle.build_names.specs.Faults.{Diagnostic}
use Rattle.build_network.specs.Seen.{items_faults, items_in, seen_at}

abbrev pub list_at : SymbolTable → List ProcessRow → SignalListRow → List Item
list_at symbols processes list =
    items_in (seen_at symbols (path_of processes list.scope)) list.definition.items

abbrev pub list_faults : SymbolTable → List ProcessRow → SignalListRow → List Diagnostic
list_faults symbols processes list =
    items_faults (seen_at symbols (path_of processes list.scope)) list.definition.items
