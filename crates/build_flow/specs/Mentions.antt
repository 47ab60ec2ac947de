-- Where a process mentions its labels: before statements and connections, and in joins.
use Rattle.std.specs.Prelude.{◌++◌, ℕ, Bool, List, [], ◌∷◌, Option, None, Some, flat_map}
use Rattle.std.specs.List.{list_any}
use Rattle.std.specs.Str.{bytes_eq}
use Rattle.sdl_lex.specs.declared.place.Place.{Place}
use Rattle.sdl_tree.specs.Tree.{Ending, Join, Next, Stop, Terminator, Transition, Steps, Actions, NoAction, AndAction, Action, Task, Output, Set, Reset, Create, Decision, Parts, NoPart, AndPart, Otherwise, NoElse, Else, Statement, ProcessDefinition}
use Rattle.sdl_tree.specs.Words.{Spot}
use Rattle.build_flow.specs.Beginnings.{Beginning, beginnings}

pub data Mention : Type 0 where
  -- the label of a statement or a connection
  Standing : (label : Spot) → Mention
  -- the label that a join names
  Joined : (label : Spot) → Mention

abbrev pub label_mentions : Option Spot → List Mention
label_mentions None = []
label_mentions (Some label) = Standing label ∷ []

abbrev pub terminator_mentions : Terminator → List Mention
terminator_mentions (Next word state) = []
terminator_mentions (Stop word) = []
terminator_mentions (Join word label) = Joined label ∷ []

abbrev pub ending_mentions : Option Ending → List Mention
ending_mentions None = []
ending_mentions (Some ending) = label_mentions ending.label ++ terminator_mentions ending.terminator

-- in the order of the text
abbrev mutual
  pub transition_mentions : Transition → List Mention
  transition_mentions (Steps actions ending) = actions_mentions actions ++ ending_mentions ending

  pub actions_mentions : Actions → List Mention
  actions_mentions NoAction = []
  actions_mentions (AndAction label first rest) =
      (label_mentions label ++ action_mentions first) ++ actions_mentions rest

  pub action_mentions : Action → List Mention
  action_mentions (Task word assignments) = []
  action_mentions (Output word outputs destination) = []
  action_mentions (Set word clauses) = []
  action_mentions (Reset word groups) = []
  action_mentions (Create word process) = []
  action_mentions (Decision word question parts otherwise) = parts_mentions parts ++ otherwise_mentions otherwise

  pub parts_mentions : Parts → List Mention
  parts_mentions NoPart = []
  parts_mentions (AndPart answers transition rest) = transition_mentions transition ++ parts_mentions rest

  pub otherwise_mentions : Otherwise → List Mention
  otherwise_mentions NoElse = []
  otherwise_mentions (Else transition) = transition_mentions transition

abbrev pub statement_mentions : Statement → List Mention
statement_mentions statement = label_mentions statement.label ++ action_mentions statement.action

abbrev pub beginning_mentions : Beginning → List Mention
beginning_mentions beginning = label_mentions beginning.label ++ transition_mentions beginning.transition

abbrev pub process_mentions : ProcessDefinition → List Mention
process_mentions process = flat_map beginning_mentions (beginnings process)

-- ---- the labels, each with its place

abbrev pub label_entries : Mention → List (List ℕ × Place)
label_entries (Standing label) = (label.text, label.place) ∷ []
label_entries (Joined label) = []

abbrev pub process_labels : ProcessDefinition → List (List ℕ × Place)
process_labels process = flat_map label_entries (process_mentions process)

-- ---- the names in joins

abbrev pub join_names : Mention → List (List ℕ)
join_names (Standing label) = []
join_names (Joined label) = label.text ∷ []

abbrev pub process_joins : ProcessDefinition → List (List ℕ)
process_joins process = flat_map join_names (process_mentions process)

-- whether the text is one of the names
abbrev pub is_named : List (List ℕ) → List ℕ → Bool
is_named names text = list_any (bytes_eq text) names
