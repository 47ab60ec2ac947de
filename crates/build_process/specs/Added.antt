-- What it means that transitions were added to a table of nodes.
use Rattle.std.specs.Prelude.{◌≡◌, ◌≤◌, ◌+◌, ℕ, Bool, true, List, Option, None, Some, length, map, slice_get}
use Rattle.build_process.specs.declared.added.Added.{Added}
use Rattle.build_process.specs.declared.transitions.Transitions.{Transitions}
use Rattle.build_statements.specs.Built.{Built, Table, marked_labels, table_of}
use Rattle.build_statements.specs.Labels.{labels_of, times}
use Rattle.build_statements.specs.Made.{Made, all_labels}
use Rattle.sdl_system.specs.Body.{Body, Ends}
use Rattle.sdl_system.specs.Table.{IsTableOf}
use Rattle.sdl_system.specs.declared.id.LabelId.{LabelId}
use Rattle.sdl_system.specs.declared.id.NodeId.{NodeId}

-- the body begins at a node of the table
pub record BuiltAt (old new : Table) (place : Option NodeId) (whole : Body) : Type 0 where
  pub entry : NodeId
  pub here : place ≡ Some entry
  pub built : Built old new (Some entry) whole None

-- One transition was added: where it has a body that ends, and no label is marked twice then, the body begins at the
-- place.
abbrev pub Enters : Table → Table → Option NodeId → Option Body → Type 0
Enters old new place found =
    (whole : Body) → found ≡ Some whole → Ends whole
    → ((l : LabelId) → times l (labels_of whole) + times l (marked_labels old) ≤ 1) → BuiltAt old new place whole

-- bodies without a path that runs off the end, where no label stands twice
pub record AreWhole (bodies : List Body) : Type 0 where
  pub ends : (number : ℕ) (whole : Body) → slice_get bodies number ≡ Some whole → Ends whole
  pub once : (l : LabelId) → times l (all_labels bodies) ≤ 1

-- the table is made of these bodies, each from its entry on, where each has one
pub record MadeOf (table : Table) (entries : List NodeId) (is_whole : Bool) (bodies : List Body) : Type 0 where
  pub each : is_whole ≡ true
  pub made : Made bodies entries table

-- Transitions with these bodies stand in the table: where each has one, and they are whole, the table is made of them;
-- and where each has an entry, there are as many entries.
pub record Stand (table : Table) (entries : List NodeId) (is_whole : Bool) (found : List (Option Body)) : Type 0 where
  pub made : (bodies : List Body) → found ≡ map Some bodies → AreWhole bodies → MadeOf table entries is_whole bodies
  pub many : is_whole ≡ true → length entries ≡ length found

abbrev pub Holds : Added → List (Option Body) → Type 0
Holds added found = Stand (table_of added.table) added.entries.items added.is_whole found

-- the nodes are the table of the bodies, each from its entry on
abbrev pub IsTableIf : List Body → Option Transitions → Type 0
IsTableIf bodies None = ⊥
IsTableIf bodies (Some transitions) = IsTableOf bodies transitions.entries.items transitions.nodes.items

-- the entries are these, where each transition has one
abbrev pub AreEntries : Bool → List NodeId → Option Transitions → Type 0
AreEntries is_whole entries None = Unit {0}
AreEntries is_whole entries (Some transitions) = (is_whole ≡ true) × (transitions.entries.items ≡ entries)

-- so many transitions have an entry each
abbrev pub HasEach : ℕ → Option Transitions → Type 0
HasEach many None = Unit {0}
HasEach many (Some transitions) = length transitions.entries.items ≡ many
