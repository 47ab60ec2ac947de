-- What the tables of a process stand for, where states with the same parts share one.
use Rattle.std.specs.Prelude.{◌≡◌, ℕ, Bool, List, Option, Some, map, slice_get}
use Rattle.std.specs.Map.{lookup}
use Rattle.std.specs.Cmp.Lexicographic.{pointwise}
use Rattle.build_names.specs.Faults.{Diagnostic, least_of}
use Rattle.sdl_system.specs.declared.id.TableId.{TableId}
use Rattle.sdl_tree.specs.Tree.{States}
use Rattle.sdl_tree.specs.Words.{Spot}
use Rattle.build_states.specs.Reading.{Part}
use Rattle.build_states.specs.Outlined.{Seen, chosen, parts_at, seen_in}
use Rattle.build_states.specs.States.{Table, state_faults, table_named, table_of}
use Rattle.build_states.specs.Tabled.{table_value}
use Rattle.build_states.specs.Turned.{turns_of}
use Rattle.build_states.specs.contracts.outline.TurnPartialEq.TheImpl as turns
use Rattle.build_states.specs.declared.outline.Outline.{Outline}
use Rattle.build_states.specs.declared.outline.Turn.{Turn}
use Rattle.build_states.specs.declared.shared.StateTables.{StateTables}

-- ---- where names stand

abbrev pub seen_of : Outline → List ℕ → Seen
seen_of outline text = record { stars = outline.stars.items; turns = turns_of outline.turns text }

abbrev pub states_listed : List Part → List States
states_listed parts = map (λ part. part.states) parts

-- where a name stands in the state lists of these parts
abbrev pub turns_in : List Part → Spot → List Turn
turns_in parts name = (seen_in name.text (states_listed parts)).turns

abbrev pub same_turn : Turn → Turn → Bool
same_turn = turns.ghosts.eq

abbrev pub same_turns : List Turn → List Turn → Bool
same_turns = pointwise same_turn

-- ---- tables

-- the table of the states whose names stand there, if it is known
abbrev pub known_in : List (List Turn × TableId) → List Turn → Option TableId
known_in known turns = lookup (same_turns turns) known

abbrev pub table_at : List Table → TableId → Option Table
table_at tables number = slice_get tables number.0

-- the table of each state
abbrev pub state_tables : StateTables → List (Option Table)
state_tables states = map (table_at (map table_value states.tables.items)) states.of_states.items

-- the parts of the states whose names stand there
abbrev pub parts_by : List Part → List ℕ → List Turn → List Part
parts_by parts stars turns = parts_at parts (chosen (record { stars = stars; turns = turns }))

abbrev pub table_by : List Part → List ℕ → List Turn → Table
table_by parts stars turns = table_of (parts_by parts stars turns)

abbrev pub faults_by : List Part → List ℕ → List Turn → List Diagnostic
faults_by parts stars turns = state_faults (parts_by parts stars turns)

-- each table that is known is there, and its faults are noted
pub record IsKnown (parts : List Part) (stars : List ℕ) (known : List (List Turn × TableId)) (tables : List Table)
    (told : Option Diagnostic) : Type 0 where
  pub right : (turns : List Turn) (number : TableId) → known_in known turns ≡ Some number →
      table_at tables number ≡ Some (table_by parts stars turns)
  pub noted : (turns : List Turn) (number : TableId) → known_in known turns ≡ Some number →
      least_of told (faults_by parts stars turns) ≡ told

-- each table that was there stays where it is
abbrev pub Keeps : List Table → List Table → Type 0
Keeps old new = (number : TableId) (table : Table) → table_at old number ≡ Some table → table_at new number ≡ Some table

-- each table that was known stays so
abbrev pub KeepsKnown : List (List Turn × TableId) → List (List Turn × TableId) → Type 0
KeepsKnown old new = (turns : List Turn) (number : TableId) → known_in old turns ≡ Some number →
    known_in new turns ≡ Some number

-- States whose names stand in the same state lists have one table.
abbrev pub AreShared : List Part → List Spot → List TableId → Type 0
AreShared parts names numbers =
    (i j : ℕ) (one other : Spot) → slice_get names i ≡ Some one → slice_get names j ≡ Some other →
    turns_in parts one ≡ turns_in parts other → slice_get numbers i ≡ slice_get numbers j

-- the table is that of a state of some name
pub record IsOfName (parts : List Part) (table : Table) : Type 0 where
  pub name : Spot
  pub is : table ≡ table_named parts name
