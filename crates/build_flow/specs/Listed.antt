-- What the lists and tables of the code stand for.
use Rattle.std.specs.Prelude.{ℕ, List, Option, None, map, option_map, if◌then◌else◌}
use Rattle.build_flow.specs.Beginnings as begins
use Rattle.build_flow.specs.Mentions as mentioned
use Rattle.build_flow.specs.Reach.{is_first}
use Rattle.build_flow.specs.Turns as turns
use Rattle.build_flow.specs.declared.beginnings.Beginning.{Beginning}
use Rattle.build_flow.specs.declared.mentions.Mention.{Mention}
use Rattle.build_flow.specs.declared.mentions.Mention.TheVariants as mention
use Rattle.build_flow.specs.declared.walk.Entries.{Entries}
use Rattle.build_flow.specs.declared.walk.Entries.TheVariants as entries
use Rattle.build_flow.specs.declared.walk.Found.{Found}
use Rattle.sdl_lex.specs.declared.place.Place.{Place}
use Rattle.build_names.specs.Faults.{token_word}
use Rattle.build_names.specs.Names.{first_of}
use Rattle.sdl_tree.specs.Tree as tree
use Rattle.sdl_tree.specs.Views.{name_value, terminator_value, transition_value}
use Rattle.sdl_tree.specs.Words.{Spot}

abbrev pub beginning_value : Beginning → begins.Beginning
beginning_value beginning = record {
  is_start = beginning.is_start;
  word = token_word beginning.word;
  label = option_map (λ name. name_value name.now) beginning.label;
  transition = transition_value beginning.transition.now;
}

abbrev pub beginnings_listed : List Beginning → List begins.Beginning
beginnings_listed list = map beginning_value list

abbrev pub mention_value : Mention → mentioned.Mention
mention_value (mention.Standing name) = mentioned.Standing (name_value name.now)
mention_value (mention.Joined name) = mentioned.Joined (name_value name.now)

abbrev pub mentions_listed : List Mention → List mentioned.Mention
mentions_listed list = map mention_value list

-- the texts of names
abbrev pub texts : List (List ℕ × ℕ) → List (List ℕ)
texts names = map (λ name. name.0) names

abbrev pub found_value : Found → turns.Found
found_value found = record { terminator = terminator_value found.terminator.now; turn = found.turn }

abbrev pub found_listed : List Found → List turns.Found
found_listed list = map found_value list

abbrev pub terminators_listed : List Found → List tree.Terminator
terminators_listed list = map (λ found. terminator_value found.terminator.now) list

-- ---- which labels are entered

-- the turn of the label's name, where the label is the first of its name
abbrev pub led_turn : List (List ℕ × Place) → List (List ℕ × ℕ) → Spot → Option ℕ
led_turn labels names label = if is_first labels label then first_of names label.text else None

abbrev pub turns_of : Entries → Spot → Option ℕ
turns_of (entries.Named names) label = first_of names.now label.text
turns_of (entries.Led labels names) label = led_turn labels.now names.now label
