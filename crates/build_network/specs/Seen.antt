-- What stands in lists of signals, by the names that are seen at their place (Z.101: signal list).
use Rattle.std.specs.Prelude.{ℕ, List, [], ◌∷◌, Option, None, Some, flat_map, is_none}
use Rattle.build_definitions.specs.Definitions.{block_of}
use Rattle.build_definitions.specs.declared.entries.SignalListId.{SignalListId}
use Rattle.build_definitions.specs.declared.symbols.symbol_table.SymbolTable.{SymbolTable}
use Rattle.build_network.specs.declared.seen.Seen as the_seen
use Rattle.build_routes.specs.declared.network.list.Item.{Item}
use Rattle.build_routes.specs.declared.network.list.Item.TheVariants as item
use Rattle.build_routes.specs.declared.network.list.SignalList.{SignalList}
use Rattle.build_names.specs.Faults.{Diagnostic, fault_if}
use Rattle.build_names.specs.Names.{first_of}
use Rattle.build_names.specs.declared.faults.fault.Rule.TheVariants.{Unknown}
use Rattle.build_expressions.specs.Scope.{visible}
use Rattle.build_expressions.specs.declared.scope.SignalMeaning.{SignalMeaning}
use Rattle.build_expressions.specs.declared.scope.SignalMeaning.TheVariants.{Signal, Timer}
use Rattle.build_names.specs.Spaces.{seen_in}
use Rattle.build_names.specs.declared.scopes.scope.ScopeId.{ScopeId}
use Rattle.build_names.specs.declared.scopes.scope.ScopePath.{ScopePath}
use Rattle.sdl_system.specs.declared.id.ProcessId.{ProcessId}
use Rattle.sdl_tree.specs.Tree.{SignalListItem, SignalItem, ListItem}
use Rattle.sdl_tree.specs.Words.{Spot}

-- the signals and timers and the signal lists that are seen at a place, those of the inner scopes first
pub record Seen : Type 0 where
  pub signals : List (List ℕ × SignalMeaning)
  pub lists : List (List ℕ × SignalListId)

abbrev pub seen_of : the_seen.Seen → Seen
seen_of seen = record { signals = visible seen.signals; lists = visible seen.lists }

abbrev pub seen_at : SymbolTable → ScopePath → Seen
seen_at symbols path = record { signals = seen_in symbols.signals path; lists = seen_in symbols.lists path }

-- the scopes round what stands in a process of this number, in this scope
abbrev pub path_within : ProcessId → ScopeId → ScopePath
path_within process scope = record { process = Some process; block = block_of scope }

-- ---- items

abbrev pub listed : {A : Type 0} → Option A → List A
listed None = []
listed (Some x) = x ∷ []

abbrev pub signal_item : Option SignalMeaning → Option Item
signal_item None = None
signal_item (Some (Signal number sorts)) = Some (item.Signal number)
signal_item (Some (Timer number sorts has_default)) = Some (item.Signal number)

abbrev pub timer_item : Option SignalMeaning → Option Item
timer_item None = None
timer_item (Some (Signal number sorts)) = None
timer_item (Some (Timer number sorts has_default)) = Some (item.Signal number)

abbrev pub list_item : Option SignalListId → Option Item
list_item None = None
list_item (Some number) = Some (item.List (record { 0 = number.0 }))

-- a signal or a timer of this name
abbrev pub signal_in : Seen → Spot → Option Item
signal_in seen name = signal_item (first_of seen.signals name.text)

abbrev pub timer_in : Seen → Spot → Option Item
timer_in seen name = timer_item (first_of seen.signals name.text)

abbrev pub list_in : Seen → Spot → Option Item
list_in seen name = list_item (first_of seen.lists name.text)

abbrev pub item_in : Seen → SignalListItem → Option Item
item_in seen (SignalItem name) = signal_in seen name
item_in seen (ListItem name) = list_in seen name

-- the items of a list; what a name that stands for nothing lists isn't there
abbrev pub found_item : Seen → SignalListItem → List Item
found_item seen listed_item = listed (item_in seen listed_item)

abbrev pub items_in : Seen → List SignalListItem → List Item
items_in seen items = flat_map (found_item seen) items

abbrev pub item_name : SignalListItem → Spot
item_name (SignalItem name) = name
item_name (ListItem name) = name

-- the names that stand for nothing
abbrev pub item_faults : Seen → SignalListItem → List Diagnostic
item_faults seen listed_item = fault_if (is_none (item_in seen listed_item)) Unknown (item_name listed_item)

abbrev pub items_faults : Seen → List SignalListItem → List Diagnostic
items_faults seen items = flat_map (item_faults seen) items

abbrev pub list_items : SignalList → List Item
list_items list = list.items.items
