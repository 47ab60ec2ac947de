-- The labels of a process, in the order of the text, each as often as it stands.
use Rattle.std.specs.Prelude.{◌++◌, List, [], ◌∷◌, Option, None, Some, flat_map, map}
use Rattle.std.specs.Borrow.{Bor}
use Rattle.sdl_tree.specs.Tree.{Ending, Transition, Steps, Actions, NoAction, AndAction, Action, Task, Output, Set, Reset, Create, Decision, Parts, NoPart, AndPart, Otherwise, NoElse, Else, Stimulus, InputPart, PriorityInput, SavePart, ContinuousSignal, BodyPart, StatePart, FreeAction, ProcessDefinition}
use Rattle.sdl_tree.specs.Views.{name_value}
use Rattle.sdl_tree.specs.Words.{Spot}
use Rattle.sdl_tree.specs.declared.name.Name.{Name}

-- the label of a statement, where it has one
abbrev pub label_words : Option Spot → List Spot
label_words None = []
label_words (Some label) = label ∷ []

abbrev pub ending_labels : Option Ending → List Spot
ending_labels None = []
ending_labels (Some ending) = label_words ending.label

-- a statement's own label comes before those within it
abbrev mutual
  pub transition_labels : Transition → List Spot
  transition_labels (Steps actions ending) = actions_labels actions ++ ending_labels ending

  pub actions_labels : Actions → List Spot
  actions_labels NoAction = []
  actions_labels (AndAction label first rest) = label_words label ++ (action_labels first ++ actions_labels rest)

  pub action_labels : Action → List Spot
  action_labels (Task word assignments) = []
  action_labels (Output word outputs destination) = []
  action_labels (Set word clauses) = []
  action_labels (Reset word groups) = []
  action_labels (Create word process) = []
  action_labels (Decision word question parts otherwise) = parts_labels parts ++ otherwise_labels otherwise

  pub parts_labels : Parts → List Spot
  parts_labels NoPart = []
  parts_labels (AndPart answers transition rest) = transition_labels transition ++ parts_labels rest

  pub otherwise_labels : Otherwise → List Spot
  otherwise_labels NoElse = []
  otherwise_labels (Else transition) = transition_labels transition

abbrev pub stimulus_labels : Stimulus → List Spot
stimulus_labels (InputPart word inputs condition transition) = transition_labels transition
stimulus_labels (PriorityInput word inputs transition) = transition_labels transition
stimulus_labels (SavePart word saved) = []
stimulus_labels (ContinuousSignal word condition priority transition) = transition_labels transition

-- a connection's own label comes before those of its transition
abbrev pub body_labels : BodyPart → List Spot
body_labels (StatePart states stimuli) = flat_map stimulus_labels stimuli
body_labels (FreeAction word label transition) = label ∷ transition_labels transition

abbrev pub process_labels : ProcessDefinition → List Spot
process_labels process = transition_labels process.start.transition ++ flat_map body_labels process.body

-- ---- what the code keeps

abbrev pub names_listed : List (Bor Name) → List Spot
names_listed names = map (λ name. name_value name.now) names
