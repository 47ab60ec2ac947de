-- Names of joins, each with a turn, that were found by a quick search: a test shows that the start reaches them.
use Rattle.std.specs.Prelude.{◌&&◌, ℕ, Bool, true, false, List, [], ◌∷◌, Option, None, Some, flat_map, map, nat_lt, if◌then◌else◌}
use Rattle.std.specs.Borrow.{Bor}
use Rattle.build_names.specs.Names.{first_of}
use Rattle.sdl_tree.specs.Tree.{Join, Next, Stop, Terminator}
use Rattle.sdl_tree.specs.Views.{name_value}
use Rattle.sdl_tree.specs.declared.name.Name.{Name}
use Rattle.build_flow.specs.Mentions.{is_named}
use Rattle.build_flow.specs.Turns.{Found}

-- whether the turn comes before the name's own
abbrev pub is_sooner : ℕ → Option ℕ → Bool
is_sooner turn None = false
is_sooner turn (Some own) = nat_lt turn own

-- the name of a join to which a path comes in a turn before the name's own
abbrev pub confirmed_by : List (List ℕ × ℕ) → Terminator → ℕ → List (List ℕ)
confirmed_by names (Next word state) turn = []
confirmed_by names (Stop word) turn = []
confirmed_by names (Join word label) turn =
    if is_sooner turn (first_of names label.text) then label.text ∷ [] else []

abbrev pub confirmed_in : List (List ℕ × ℕ) → Found → List (List ℕ)
confirmed_in names found = confirmed_by names found.terminator found.turn

abbrev pub all_confirmed : List (List ℕ × ℕ) → List Found → List (List ℕ)
all_confirmed names found = flat_map (confirmed_in names) found

-- whether all of the texts are among the names
abbrev pub all_named : List (List ℕ) → List (List ℕ) → Bool
all_named names [] = true
all_named names (text ∷ rest) = is_named names text && all_named names rest

abbrev pub name_text : Bor Name → List ℕ
name_text name = (name_value name.now).text

abbrev pub name_texts : List (Bor Name) → List (List ℕ)
name_texts names = map name_text names
