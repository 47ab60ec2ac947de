-- In which state lists of a process a name stands, and which parts the state of that name then has.
use Rattle.std.specs.Prelude.{◌==◌, ◌+◌, ◌-◌, ℕ, ◌++◌, Bool, true, false, List, [], ◌∷◌, Option, None, Some, flat_map, fold, if◌then◌else◌, length, slice_get}
use Rattle.std.specs.List.{between}
use Rattle.std.specs.Str.{bytes_eq}
use Rattle.sdl_tree.specs.Tree.{StateAll, StateList, States}
use Rattle.sdl_tree.specs.Words.{Spot}
use Rattle.build_states.specs.Reading.{Part}
use Rattle.build_states.specs.declared.outline.Turn.{Turn}

-- whether an asterisk stands for the states of a part
abbrev pub is_star : States → Bool
is_star (StateList names) = false
is_star (StateAll asterisk except) = true

-- the names in the state list of a part: its states, or those that its asterisk leaves out
abbrev pub written : States → List Spot
written (StateList names) = names
written (StateAll asterisk except) = except

-- ---- where a name stands

abbrev pub is_of : Option Turn → ℕ → Bool
is_of None part = false
is_of (Some turn) part = turn.part == part

-- whether the last of these is of this part
abbrev pub ends_at : List Turn → ℕ → Bool
ends_at turns part = is_of (slice_get turns (length turns - 1)) part

-- these, and one of a part behind them, once
abbrev pub with_turn : List Turn → Turn → List Turn
with_turn turns turn = if ends_at turns turn.part then turns else turns ++ turn ∷ []

-- and one more where the name is this text
abbrev pub with_name : List ℕ → Turn → List Turn → Spot → List Turn
with_name text turn turns name = if bytes_eq text name.text then with_turn turns turn else turns

abbrev pub with_names : List ℕ → Turn → List Turn → List Spot → List Turn
with_names text turn turns names = fold (with_name text turn) turns names

-- the parts with an asterisk, and where a name stands
pub record Seen : Type 0 where
  pub stars : List ℕ
  pub turns : List Turn

abbrev pub with_star : List ℕ → ℕ → States → List ℕ
with_star stars part states = if is_star states then stars ++ part ∷ [] else stars

-- a name stands in the list of this part, behind these parts with an asterisk
abbrev pub turn_at : List ℕ → ℕ → States → Turn
turn_at stars part states = record {
  part = part;
  is_left_out = is_star states;
  until = length stars;
  from = length (with_star stars part states);
}

abbrev pub with_states : List ℕ → ℕ → Seen → States → Seen
with_states text part seen states = record {
  stars = with_star seen.stars part states;
  turns = with_names text (turn_at seen.stars part states) seen.turns (written states);
}

-- the states of more parts, the first of them with this number
abbrev pub seen_from : List ℕ → ℕ → Seen → List States → Seen
seen_from text part seen [] = seen
seen_from text part seen (states ∷ rest) = seen_from text (part + 1) (with_states text part seen states) rest

abbrev pub nothing_seen : Seen
nothing_seen = record { stars = []; turns = [] }

abbrev pub seen_in : List ℕ → List States → Seen
seen_in text states = seen_from text 0 nothing_seen states

-- ---- the parts of a state

-- the parts so far, and how many of those with an asterisk are passed
pub record Cursor : Type 0 where
  pub from : ℕ
  pub parts : List ℕ

abbrev pub own_part : Turn → List ℕ
own_part turn = if turn.is_left_out then [] else turn.part ∷ []

-- the parts with an asterisk up to a list where the name stands, and the part of that list unless it leaves the name out
abbrev pub with_own : List ℕ → Cursor → Turn → Cursor
with_own stars cursor turn = record {
  from = turn.from;
  parts = (cursor.parts ++ between cursor.from turn.until stars) ++ own_part turn;
}

abbrev pub first_cursor : Cursor
first_cursor = record { from = 0; parts = [] }

abbrev pub cursor_behind : List ℕ → List Turn → Cursor
cursor_behind stars turns = fold (with_own stars) first_cursor turns

abbrev pub with_left : List ℕ → Cursor → List ℕ
with_left stars cursor = cursor.parts ++ between cursor.from (length stars) stars

-- the numbers of the parts that belong to the state of a name
abbrev pub chosen : Seen → List ℕ
chosen seen = with_left seen.stars (cursor_behind seen.stars seen.turns)

abbrev pub listed_part : Option Part → List Part
listed_part None = []
listed_part (Some part) = part ∷ []

abbrev pub parts_at : List Part → List ℕ → List Part
parts_at parts numbers = flat_map (λ number. listed_part (slice_get parts number)) numbers
