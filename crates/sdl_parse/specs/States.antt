-- Reading of the start, of states and of connections. A reading is a device of the proofs: what the grammar spells, `sdl_tree` says.
use Rattle.std.specs.Prelude.{ℕ, Bool, List, [], ◌∷◌, Option}
use Rattle.std.specs.List.{list_any}
use Rattle.std.specs.Str.{bytes_eq}
use Rattle.sdl_tree.specs.declared.mark.Mark.{Mark}
use Rattle.sdl_tree.specs.declared.mark.Mark.TheVariants as mark
use Rattle.sdl_tree.specs.declared.name.Spelling.{Spelling}
use Rattle.sdl_tree.specs.Tree.{Transition, Start, Stimulus, States, StateList, StateAll, BodyPart, StatePart, FreeAction}
use Rattle.sdl_tree.specs.Words.{Words, Spot}
use Rattle.sdl_parse.specs.Stimuli.{stimulus}
use Rattle.sdl_parse.specs.Transitions.{trans}
use Rattle.parse_expressions.specs.Parts.{followed_by, ended, named, end_name, closed, sees_one}
use Rattle.parse_expressions.specs.Reading.{Parser, pure, ◌⊗◌, behind, before, made, either, maybe, sees, expect, name, separated, repeated, in_parentheses}

abbrev pub start_with : Spelling × Transition → Start
start_with p = record { word = p.0; transition = p.1 }

-- start = "start" end trans
unfoldable pub start : ℕ → Parser Start
start depth = made start_with (ended (expect mark.Start) ⊗ trans depth)

-- ---- states

abbrev pub all_with : Spelling × List Spot → States
all_with p = StateAll p.0 p.1

-- states = "*" ["(" NAME {"," NAME} ")"] | NAME {"," NAME}
unfoldable pub states : Parser States
states = either (sees mark.Asterisk) (made all_with (expect mark.Asterisk ⊗ in_parentheses name)) (made StateList (separated name))

abbrev pub is_named : List Spot → List ℕ → Bool
is_named xs x = list_any (λ y. bytes_eq y.text x) xs

-- [NAME], where a name is one of these
abbrev pub one_of : List Spot → Parser (Unit {0})
one_of xs = named (is_named xs)

-- [NAME] behind `endstate`
abbrev pub end_state_name : States → Parser (Unit {0})
end_state_name (StateList xs) = one_of xs
end_state_name (StateAll w xs) = pure tt

-- ["endstate" [NAME] end]
unfoldable pub end_state : States → Parser (Unit {0})
end_state of_these = closed mark.EndState (end_state_name of_these)

abbrev pub state_with : States × List Stimulus → BodyPart
state_with p = StatePart p.0 p.1

-- state = "state" states end {stimulus} ["endstate" [NAME] end]
unfoldable pub state_part : ℕ → Parser BodyPart
state_part depth = made state_with (behind mark.State (followed_by (ended states ⊗ repeated (stimulus depth)) (λ p. end_state p.0)))

-- ---- connections

-- ["endconnection" [NAME] end]
unfoldable pub end_connection : List ℕ → Parser (Unit {0})
end_connection x = closed mark.EndConnection (end_name x)

abbrev pub free_with : Spelling × (Spot × Transition) → BodyPart
free_with p = FreeAction p.0 p.1.0 p.1.1

-- connection = "connection" NAME ":" trans ["endconnection" [NAME] end]
unfoldable pub connection : ℕ → Parser BodyPart
connection depth =
    made free_with (expect mark.Connection ⊗ followed_by (before name mark.Colon ⊗ trans depth) (λ p. end_connection p.0.text))

abbrev pub body_part_marks : List Mark
body_part_marks = mark.State ∷ mark.Connection ∷ []

unfoldable pub begins_body_part : Words → Bool
begins_body_part i = sees_one body_part_marks i

-- state | connection, if one stands next
unfoldable pub body_part : ℕ → Parser (Option BodyPart)
body_part depth = maybe begins_body_part (either (sees mark.State) (state_part depth) (connection depth))
