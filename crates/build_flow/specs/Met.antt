-- Which terminators paths through a transition come to.
use Rattle.std.specs.Prelude.{◌||◌, ◌++◌, Bool, List, [], ◌∷◌, Option, None, Some, if◌then◌else◌}
use Rattle.sdl_tree.specs.Tree.{Ending, Terminator, Transition, Steps, Actions, NoAction, AndAction, Action, Task, Output, Set, Reset, Create, Decision, Parts, NoPart, AndPart, Otherwise, NoElse, Else}
use Rattle.sdl_tree.specs.Words.{Spot}
use Rattle.build_flow.specs.Passing.{action_passed, actions_passed, is_entered}

abbrev pub met_if : Bool → Terminator → List Terminator
met_if comes terminator = if comes then terminator ∷ [] else []

abbrev pub ending_met : (Spot → Bool) → Option Ending → Bool → List Terminator
ending_met enters None comes = []
ending_met enters (Some ending) comes = met_if (comes || is_entered enters ending.label) ending.terminator

-- Those to which a path comes, in the order of the text, where `enters` says which labels are entered, and `comes`
-- whether a path comes to the first statement.
abbrev mutual
  pub transition_met : (Spot → Bool) → Transition → Bool → List Terminator
  transition_met enters (Steps actions ending) comes =
      actions_met enters actions comes ++ ending_met enters ending (actions_passed enters actions comes)

  pub actions_met : (Spot → Bool) → Actions → Bool → List Terminator
  actions_met enters NoAction comes = []
  actions_met enters (AndAction label first rest) comes =
      action_met enters first (comes || is_entered enters label)
      ++ actions_met enters rest (action_passed enters first (comes || is_entered enters label))

  pub action_met : (Spot → Bool) → Action → Bool → List Terminator
  action_met enters (Task word assignments) comes = []
  action_met enters (Output word outputs destination) comes = []
  action_met enters (Set word clauses) comes = []
  action_met enters (Reset word groups) comes = []
  action_met enters (Create word process) comes = []
  action_met enters (Decision word question parts otherwise) comes =
      parts_met enters parts comes ++ otherwise_met enters otherwise comes

  pub parts_met : (Spot → Bool) → Parts → Bool → List Terminator
  parts_met enters NoPart comes = []
  parts_met enters (AndPart answers transition rest) comes =
      transition_met enters transition comes ++ parts_met enters rest comes

  pub otherwise_met : (Spot → Bool) → Otherwise → Bool → List Terminator
  otherwise_met enters NoElse comes = []
  otherwise_met enters (Else transition) comes = transition_met enters transition comes
