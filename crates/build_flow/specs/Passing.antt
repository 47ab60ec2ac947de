-- Which paths through a transition run off its end. A path begins at the first statement, or at a label where paths
-- enter. It goes on behind a decision where it runs off the end of one of its parts: a decision all of whose parts end,
-- ends.
use Rattle.std.specs.Prelude.{◌||◌, Bool, false, Option, None, Some}
use Rattle.sdl_tree.specs.Tree.{Ending, Transition, Steps, Actions, NoAction, AndAction, Action, Task, Output, Set, Reset, Create, Decision, Parts, NoPart, AndPart, Otherwise, NoElse, Else}
use Rattle.sdl_tree.specs.Words.{Spot}

-- whether paths enter at this label, where one stands
abbrev pub is_entered : (Spot → Bool) → Option Spot → Bool
is_entered enters None = false
is_entered enters (Some label) = enters label

-- no path goes on behind a terminator
abbrev pub ending_passed : Option Ending → Bool → Bool
ending_passed None comes = comes
ending_passed (Some ending) comes = false

-- Whether a path runs off the end, where `enters` says which labels are entered, and `comes` whether a path comes to
-- the first statement.
abbrev mutual
  pub transition_passed : (Spot → Bool) → Transition → Bool → Bool
  transition_passed enters (Steps actions ending) comes = ending_passed ending (actions_passed enters actions comes)

  pub actions_passed : (Spot → Bool) → Actions → Bool → Bool
  actions_passed enters NoAction comes = comes
  actions_passed enters (AndAction label first rest) comes =
      actions_passed enters rest (action_passed enters first (comes || is_entered enters label))

  pub action_passed : (Spot → Bool) → Action → Bool → Bool
  action_passed enters (Task word assignments) comes = comes
  action_passed enters (Output word outputs destination) comes = comes
  action_passed enters (Set word clauses) comes = comes
  action_passed enters (Reset word groups) comes = comes
  action_passed enters (Create word process) comes = comes
  action_passed enters (Decision word question parts otherwise) comes =
      parts_passed enters parts comes || otherwise_passed enters otherwise comes

  pub parts_passed : (Spot → Bool) → Parts → Bool → Bool
  parts_passed enters NoPart comes = false
  parts_passed enters (AndPart answers transition rest) comes =
      transition_passed enters transition comes || parts_passed enters rest comes

  pub otherwise_passed : (Spot → Bool) → Otherwise → Bool → Bool
  otherwise_passed enters NoElse comes = false
  otherwise_passed enters (Else transition) comes = transition_passed enters transition comes
