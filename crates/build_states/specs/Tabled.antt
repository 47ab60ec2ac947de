-- What the tables of the code stand for.
use Rattle.std.specs.Prelude.{ℕ, Bool, List, [], ◌∷◌, Option, None, Some, is_some, map}
use Rattle.std.specs.Borrow.{Bor}
use Rattle.build_names.specs.Names.{first_of}
use Rattle.sdl_system.specs.declared.id.StateId.{StateId}
use Rattle.sdl_tree.specs.Views.{name_value}
use Rattle.sdl_tree.specs.Words.{Spot}
use Rattle.sdl_tree.specs.declared.name.Name.{Name}
use Rattle.build_states.specs.Answered.{answers_value}
use Rattle.build_states.specs.Listed.{continuous_value, part_value}
use Rattle.build_states.specs.Reading as read
use Rattle.build_states.specs.declared.stimuli.reading.Part.{Part}
use Rattle.build_states.specs.States as states
use Rattle.build_states.specs.declared.table.Table.{Table}

abbrev pub table_value : Table → states.Table
table_value table = record {
  answers = answers_value table.answers;
  enabling = table.enabling.items;
  continuous = map continuous_value table.continuous.items;
}

abbrev pub names_listed : List (Bor Name) → List Spot
names_listed names = map (λ name. name_value name.now) names

abbrev pub part_seen : Bor Part → read.Part
part_seen part = part_value part.now

-- whether a state of this name is in the table
abbrev pub is_state : List (List ℕ × StateId) → List ℕ → Bool
is_state states text = is_some (first_of states text)

-- what a state of this name means by its table, if there is one
abbrev pub meaning_at : Spot → Option states.Table → Option states.StateMeaning
meaning_at name None = None
meaning_at name (Some table) = Some (states.meaning_of name.text table)

-- the states of these names, each with its table
abbrev pub meanings_at : List Spot → List (Option states.Table) → List (Option states.StateMeaning)
meanings_at [] tables = []
meanings_at (name ∷ names) [] = []
meanings_at (name ∷ names) (table ∷ tables) = meaning_at name table ∷ meanings_at names tables
