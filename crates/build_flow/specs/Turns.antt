-- How soon paths come to the ends of transitions, where the labels are entered in turns: what is known of paths while
-- it is found which labels are reached.
use Rattle.std.specs.Prelude.{◌++◌, ℕ, Bool, true, false, List, [], ◌∷◌, Option, None, Some, flat_map, nat_lt, if◌then◌else◌}
use Rattle.sdl_tree.specs.Tree.{Ending, Terminator, Transition, Steps, Actions, NoAction, AndAction, Action, Task, Output, Set, Reset, Create, Decision, Parts, NoPart, AndPart, Otherwise, NoElse, Else, Statement}
use Rattle.sdl_tree.specs.Words.{Spot}
use Rattle.build_flow.specs.Beginnings.{Beginning}

-- the sooner of two turns; none where no path comes
abbrev pub sooner : Option ℕ → Option ℕ → Option ℕ
sooner None other = other
sooner (Some one) None = Some one
sooner (Some one) (Some other) = if nat_lt other one then Some other else Some one

-- the turn in which paths enter at this label, where one stands
abbrev pub entry_turn : (Spot → Option ℕ) → Option Spot → Option ℕ
entry_turn turns None = None
entry_turn turns (Some label) = turns label

abbrev pub ending_turn : Option Ending → Option ℕ → Option ℕ
ending_turn None comes = comes
ending_turn (Some ending) comes = None

-- The soonest turn in which a path runs off the end, where `turns` says in which turn a label is entered, and `comes`
-- in which a path comes to the first statement.
abbrev mutual
  pub transition_turn : (Spot → Option ℕ) → Transition → Option ℕ → Option ℕ
  transition_turn turns (Steps actions ending) comes = ending_turn ending (actions_turn turns actions comes)

  pub actions_turn : (Spot → Option ℕ) → Actions → Option ℕ → Option ℕ
  actions_turn turns NoAction comes = comes
  actions_turn turns (AndAction label first rest) comes =
      actions_turn turns rest (action_turn turns first (sooner comes (entry_turn turns label)))

  pub action_turn : (Spot → Option ℕ) → Action → Option ℕ → Option ℕ
  action_turn turns (Task word assignments) comes = comes
  action_turn turns (Output word outputs destination) comes = comes
  action_turn turns (Set word clauses) comes = comes
  action_turn turns (Reset word groups) comes = comes
  action_turn turns (Create word process) comes = comes
  action_turn turns (Decision word question parts otherwise) comes =
      sooner (parts_turn turns parts comes) (otherwise_turn turns otherwise comes)

  pub parts_turn : (Spot → Option ℕ) → Parts → Option ℕ → Option ℕ
  parts_turn turns NoPart comes = None
  parts_turn turns (AndPart answers transition rest) comes =
      sooner (transition_turn turns transition comes) (parts_turn turns rest comes)

  pub otherwise_turn : (Spot → Option ℕ) → Otherwise → Option ℕ → Option ℕ
  otherwise_turn turns NoElse comes = None
  otherwise_turn turns (Else transition) comes = transition_turn turns transition comes

abbrev pub statement_turn : (Spot → Option ℕ) → Statement → Option ℕ → Option ℕ
statement_turn turns statement comes =
    action_turn turns statement.action (sooner comes (entry_turn turns statement.label))

-- a terminator, and the soonest turn in which a path comes to it
pub record Found : Type 0 where
  pub terminator : Terminator
  pub turn : ℕ

abbrev pub found_in : Terminator → Option ℕ → List Found
found_in terminator None = []
found_in terminator (Some turn) = record { terminator = terminator; turn = turn } ∷ []

abbrev pub ending_found : (Spot → Option ℕ) → Option Ending → Option ℕ → List Found
ending_found turns None comes = []
ending_found turns (Some ending) comes = found_in ending.terminator (sooner comes (entry_turn turns ending.label))

-- the terminators to which paths come, in the order of the text
abbrev mutual
  pub transition_found : (Spot → Option ℕ) → Transition → Option ℕ → List Found
  transition_found turns (Steps actions ending) comes =
      actions_found turns actions comes ++ ending_found turns ending (actions_turn turns actions comes)

  pub actions_found : (Spot → Option ℕ) → Actions → Option ℕ → List Found
  actions_found turns NoAction comes = []
  actions_found turns (AndAction label first rest) comes =
      action_found turns first (sooner comes (entry_turn turns label))
      ++ actions_found turns rest (action_turn turns first (sooner comes (entry_turn turns label)))

  pub action_found : (Spot → Option ℕ) → Action → Option ℕ → List Found
  action_found turns (Task word assignments) comes = []
  action_found turns (Output word outputs destination) comes = []
  action_found turns (Set word clauses) comes = []
  action_found turns (Reset word groups) comes = []
  action_found turns (Create word process) comes = []
  action_found turns (Decision word question parts otherwise) comes =
      parts_found turns parts comes ++ otherwise_found turns otherwise comes

  pub parts_found : (Spot → Option ℕ) → Parts → Option ℕ → List Found
  parts_found turns NoPart comes = []
  parts_found turns (AndPart answers transition rest) comes =
      transition_found turns transition comes ++ parts_found turns rest comes

  pub otherwise_found : (Spot → Option ℕ) → Otherwise → Option ℕ → List Found
  otherwise_found turns NoElse comes = []
  otherwise_found turns (Else transition) comes = transition_found turns transition comes

abbrev pub statement_found : (Spot → Option ℕ) → Statement → Option ℕ → List Found
statement_found turns statement comes =
    action_found turns statement.action (sooner comes (entry_turn turns statement.label))

-- ---- in a process

-- a path comes to the first statement behind the start at once, and behind a connection in the turn of its label
abbrev pub first_turn : Bool → Option ℕ → Option ℕ
first_turn true entry = Some 0
first_turn false entry = entry

abbrev pub beginning_found : (Spot → Option ℕ) → Beginning → List Found
beginning_found turns beginning =
    transition_found turns beginning.transition (first_turn beginning.is_start (entry_turn turns beginning.label))

abbrev pub found_from : (Spot → Option ℕ) → List Beginning → List Found
found_from turns all = flat_map (beginning_found turns) all
