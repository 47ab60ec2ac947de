-- The states of a process by their names: those in its state lists, in the order of the text.
use Rattle.std.specs.Prelude.{◌++◌, ℕ, Bool, List, [], ◌∷◌, flat_map, fold, map, if◌then◌else◌}
use Rattle.std.specs.List.{list_any}
use Rattle.std.specs.Str.{bytes_eq}
use Rattle.sdl_lex.specs.declared.place.Place.{Place}
use Rattle.sdl_tree.specs.Tree.{BodyPart, FreeAction, ProcessDefinition, StateAll, StateList, StatePart, States}
use Rattle.sdl_tree.specs.Words.{Spot}

-- the names of a state list; the other forms name no state
abbrev pub named_states : States → List Spot
named_states (StateList names) = names
named_states (StateAll asterisk except) = []

abbrev pub part_states : BodyPart → List Spot
part_states (StatePart states stimuli) = named_states states
part_states (FreeAction word label transition) = []

abbrev pub state_names : ProcessDefinition → List Spot
state_names process = flat_map part_states process.body

abbrev pub is_same_text : Spot → Spot → Bool
is_same_text one other = bytes_eq one.text other.text

-- these words, and one more behind them if its text is new
abbrev pub with_new : List Spot → Spot → List Spot
with_new words word = if list_any (is_same_text word) words then words else words ++ word ∷ []

-- the words of a list whose texts are different, each where its text first stands
abbrev pub different : List Spot → List Spot
different words = fold with_new [] words

-- ---- what the code keeps

-- a name of a scope that is kept with its place
abbrev pub entry_word : List ℕ × Place → Spot
entry_word entry = record { text = entry.0; place = entry.1 }

abbrev pub words_listed : List (List ℕ × Place) → List Spot
words_listed names = map entry_word names
