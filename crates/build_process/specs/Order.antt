-- The bodies of a process stand in the order in which its transitions are numbered where its stimuli are read.
use Rattle.std.specs.Prelude.{◌≡◌, ◌+◌, List, ◌∷◌, flat_map, length}
use Rattle.build_flow.specs.Beginnings.{Beginning, part_beginnings, stimulus_beginnings}
use Rattle.build_states.specs.Context.{Context}
use Rattle.build_states.specs.Reading.{Numbering, body_read, part_read}
use Rattle.sdl_tree.specs.Tree.{BodyPart, States, Stimulus}

-- Behind the start and these parts comes the transition that has as its number how many begin before it.
abbrev pub PartsInOrder : Type 0
PartsInOrder =
    (context : Context) (start : Beginning) (before : List BodyPart)
    → (body_read context before).numbering.next.0 ≡ length (start ∷ flat_map part_beginnings before)

-- And so does the one behind these stimuli of a part, counted from the first of the part.
abbrev pub StimuliInOrder : Type 0
StimuliInOrder =
    (context : Context) (numbering : Numbering) (states : States) (before : List Stimulus)
    → (part_read context numbering states before).numbering.next.0
    ≡ numbering.next.0 + length (flat_map stimulus_beginnings before)
