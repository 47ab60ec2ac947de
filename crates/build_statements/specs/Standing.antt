-- What stands in a transition: in itself, and in the parts of the decisions in it (Z.102: transition string, decision).
use Rattle.std.specs.Prelude.{◌≡◌, List, Option, None, Some}
use Rattle.build_names.specs.FaultLaws.{In}
use Rattle.build_expressions.specs.Scope.{Scope, value_in}
use Rattle.sdl_tree.specs.Tree.{Action, Actions, Applied, Assignment, Create, Decision, Destination, Else, Ending, Expr, Named, Otherwise, Output, Part, Parts, Reset, Set, SetClause, Statement, Steps, Task, Terminator, Transition, parts_in, statements_in}
use Rattle.sdl_tree.specs.Words.{Spot}
use Rattle.sdl_tree.specs.declared.name.Spelling.{Spelling}

-- it stands behind answers of the decision, or behind `else`
pub data IsPart : Transition → Action → Type 0 where
  behind_answers :
      {word : Spelling} {question : Expr} {parts : Parts} {otherwise : Otherwise} (part : Part)
      → In part (parts_in parts) → IsPart part.transition (Decision word question parts otherwise)
  behind_else :
      {word : Spelling} {question : Expr} {parts : Parts} (other : Transition)
      → IsPart other (Decision word question parts (Else other))

-- the transition itself, or one that is a part of a decision in it
pub data Within (whole : Transition) : Transition → Type 0 where
  itself : Within whole whole
  in_decision :
      {actions : Actions} {ending : Option Ending} {part : Transition} (statement : Statement)
      → Within whole (Steps actions ending) → In statement (statements_in actions) → IsPart part statement.action
      → Within whole part

-- the action stands in the transition
pub record StandsIn (whole : Transition) (action : Action) : Type 0 where
  pub actions : Actions
  pub ending : Option Ending
  pub within : Within whole (Steps actions ending)
  pub statement : Statement
  pub among : In statement (statements_in actions)
  pub is : statement.action ≡ action

-- the transition, or a part of a decision in it, ends with the terminator
pub record EndsIn (whole : Transition) (terminator : Terminator) : Type 0 where
  pub actions : Actions
  pub ending : Ending
  pub within : Within whole (Steps actions (Some ending))
  pub is : ending.terminator ≡ terminator

-- ---- expressions

-- the destination isn't the name of an agent: it is no name, or a variable or a synonym has it
abbrev pub IsPidPlace : Scope → Expr → Type 0
IsPidPlace scope destination = (name : Spot) → destination ≡ Named name → value_in scope name.text ≡ None → ⊥

-- the expression is asked for by the action; the answers of a decision are constants, and not among these
pub data IsAskedBy (scope : Scope) : Action → Expr → Type 0 where
  assigned :
      {word : Spelling} {assignments : List Assignment} (assignment : Assignment)
      → In assignment assignments → IsAskedBy scope (Task word assignments) assignment.value
  sent :
      {word : Spelling} {outputs : List Applied} {destination : Option Destination} (output : Applied)
      → In output outputs → (value : Expr) → In value output.values
      → IsAskedBy scope (Output word outputs destination) value
  destined :
      {word : Spelling} {outputs : List Applied} (destination : Destination)
      → IsPidPlace scope destination.value → IsAskedBy scope (Output word outputs (Some destination)) destination.value
  due :
      {word : Spelling} {clauses : List SetClause} (clause : SetClause) → In clause clauses
      → (time : Expr) → clause.time ≡ Some time → IsAskedBy scope (Set word clauses) time
  of_timer :
      {word : Spelling} {clauses : List SetClause} (clause : SetClause) → In clause clauses
      → (value : Expr) → In value clause.timer.values → IsAskedBy scope (Set word clauses) value
  of_reset :
      {word : Spelling} {groups : List (List Applied)} (group : List Applied) → In group groups
      → (reset : Applied) → In reset group → (value : Expr) → In value reset.values
      → IsAskedBy scope (Reset word groups) value
  handed :
      {word : Spelling} {created : Applied} (value : Expr) → In value created.values
      → IsAskedBy scope (Create word created) value
  question :
      {word : Spelling} {parts : Parts} {otherwise : Otherwise} (asked : Expr)
      → IsAskedBy scope (Decision word asked parts otherwise) asked
