-- What begins the transitions of a process: its start, stimuli and connections.
use Rattle.std.specs.Prelude.{Bool, true, false, List, [], ◌∷◌, Option, None, Some, flat_map}
use Rattle.build_names.specs.Faults.{mark_word}
use Rattle.sdl_tree.specs.Tree.{Transition, Stimulus, InputPart, PriorityInput, SavePart, ContinuousSignal, BodyPart, StatePart, FreeAction, ProcessDefinition}
use Rattle.sdl_tree.specs.Words.{Spot}
use Rattle.sdl_tree.specs.declared.mark.Mark.TheVariants as mark

-- what begins a transition
pub record Beginning : Type 0 where
  -- whether it is the start
  pub is_start : Bool
  -- its first word
  pub word : Spot
  -- that of a connection
  pub label : Option Spot
  pub transition : Transition

abbrev pub beginning_of : Bool → Spot → Option Spot → Transition → Beginning
beginning_of is_start word label transition =
    record { is_start = is_start; word = word; label = label; transition = transition }

abbrev pub stimulus_beginnings : Stimulus → List Beginning
stimulus_beginnings (InputPart word inputs condition transition) =
    beginning_of false (mark_word mark.Input word) None transition ∷ []
stimulus_beginnings (PriorityInput word inputs transition) =
    beginning_of false (mark_word mark.Priority word) None transition ∷ []
stimulus_beginnings (SavePart word saved) = []
stimulus_beginnings (ContinuousSignal word condition priority transition) =
    beginning_of false (mark_word mark.Provided word) None transition ∷ []

abbrev pub part_beginnings : BodyPart → List Beginning
part_beginnings (StatePart states stimuli) = flat_map stimulus_beginnings stimuli
part_beginnings (FreeAction word label transition) =
    beginning_of false (mark_word mark.Connection word) (Some label) transition ∷ []

-- in the order of the text
abbrev pub beginnings_behind : ProcessDefinition → List Beginning
beginnings_behind process = flat_map part_beginnings process.body

-- the start begins its transition likewise
abbrev pub start_beginning : ProcessDefinition → Beginning
start_beginning process =
    beginning_of true (mark_word mark.Start process.start.word) None process.start.transition

-- all of them, the start at their head
abbrev pub beginnings : ProcessDefinition → List Beginning
beginnings process = start_beginning process ∷ beginnings_behind process
