-- What the states and tables of a process hold.
use Rattle.std.specs.Prelude.{ℕ, Bool, List, [], ◌∷◌, Option, None, Some, Contains, string_bytes}
use Rattle.std.specs.List.{AllZip}
use Rattle.build_states.specs.States.{Table}
use Rattle.sdl_system.specs.declared.id.NodeId.{NodeId}
use Rattle.sdl_system.specs.declared.id.TableId.{TableId}
use Rattle.sdl_system.specs.declared.process.State.{State}
use Rattle.sdl_system.specs.declared.state.StateTable.{StateTable}
use Rattle.sdl_tree.specs.Words.{Spot}
use Rattle.build_tables.specs.Linked.{IsTable, Lacks}

-- a transition of one of these tables has no entry
pub record SomeLacks (entries : List NodeId) (said : List Table) : Type 0 where
  pub one : Table
  pub listed : Contains said one
  pub lacks : Lacks entries one

-- The tables hold what their states say, each at its number.
abbrev pub TablesOf : List NodeId → List Bool → ℕ → List Table → Option (List StateTable) → Type 0
TablesOf entries valid count said None = SomeLacks entries said
TablesOf entries valid count said (Some tables) = AllZip (IsTable entries valid count) said tables

-- the name of a state, and its table
pub record Stated : Type 0 where
  pub name : List ℕ
  pub table : TableId

abbrev pub state_value : State → Stated
state_value state = record { name = string_bytes state.name; table = state.table }

-- the states of these names, each with its table
abbrev pub states_listed : List Spot → List TableId → List Stated
states_listed [] tables = []
states_listed (name ∷ names) [] = []
states_listed (name ∷ names) (table ∷ tables) = record { name = name.text; table = table } ∷ states_listed names tables
