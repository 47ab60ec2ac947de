-- Paths through a transition, said of its statements one after the other. A path begins at the first statement or at a
-- label, goes on behind each action, and at a decision goes into one of its parts; where it runs off the end of the
-- part, it goes on behind the decision (Z.101: decision, transition string, terminator).
use Rattle.std.specs.Prelude.{◌≡◌, List, Option, None, Some}
use Rattle.sdl_tree.specs.Tree.{Answer, Applied, Assignment, Destination, Expr, SetClause, Ending, Terminator, Transition, Steps, Actions, NoAction, AndAction, Action, Task, Output, Set, Reset, Create, Decision, Parts, AndPart, Otherwise, Else}
use Rattle.sdl_tree.specs.Words.{Spot}
use Rattle.sdl_tree.specs.declared.name.Spelling.{Spelling}

-- where a path begins
pub data Origin : Type 0 where
  AtFirst : Origin
  AtLabel : (label : Spot) → Origin

-- the transition stands behind one of these answers
pub data Answered (t : Transition) : Parts → Type 0 where
  this : (answers : List Answer) (rest : Parts) → Answered t (AndPart answers t rest)
  later :
      (answers : List Answer) (other : Transition) (rest : Parts) → Answered t rest
      → Answered t (AndPart answers other rest)

-- it is a part of the decision: it stands behind answers, or behind `else`
pub data IsPart (t : Transition) : Action → Type 0 where
  answered :
      (word : Spelling) (question : Expr) (parts : Parts) (otherwise : Otherwise) → Answered t parts
      → IsPart t (Decision word question parts otherwise)
  other_answer : (word : Spelling) (question : Expr) (parts : Parts) → IsPart t (Decision word question parts (Else t))

-- no decision
pub data IsSimple : Action → Type 0 where
  task : (word : Spelling) (assignments : List Assignment) → IsSimple (Task word assignments)
  output :
      (word : Spelling) (outputs : List Applied) (destination : Option Destination)
      → IsSimple (Output word outputs destination)
  set : (word : Spelling) (clauses : List SetClause) → IsSimple (Set word clauses)
  reset : (word : Spelling) (groups : List (List Applied)) → IsSimple (Reset word groups)
  create : (word : Spelling) (process : Applied) → IsSimple (Create word process)

mutual
  -- a path from there runs off the end of the transition
  pub data RunsOff : Origin → Transition → Type 0 where
    runs_off : (from : Origin) (actions : Actions) → GoesBehind from actions → RunsOff from (Steps actions None)

  -- a path from there goes on behind all of these actions
  pub data GoesBehind : Origin → Actions → Type 0 where
    nothing : GoesBehind AtFirst NoAction
    on :
        (from : Origin) (label : Option Spot) (first : Action) (rest : Actions) → Crosses from first
        → GoesBehind AtFirst rest → GoesBehind from (AndAction label first rest)
    from_here :
        (label : Spot) (first : Action) (rest : Actions) → GoesBehind AtFirst (AndAction (Some label) first rest)
        → GoesBehind (AtLabel label) (AndAction (Some label) first rest)
    from_later :
        (at : Spot) (label : Option Spot) (first : Action) (rest : Actions) → GoesBehind (AtLabel at) rest
        → GoesBehind (AtLabel at) (AndAction label first rest)

  -- a path from there goes on behind the action
  pub data Crosses : Origin → Action → Type 0 where
    simple : (action : Action) → IsSimple action → Crosses AtFirst action
    through :
        (from : Origin) (action : Action) (t : Transition) → IsPart t action → RunsOff from t → Crosses from action

mutual
  -- a path from there comes to the terminator
  pub data ComesTo (terminator : Terminator) : Origin → Transition → Type 0 where
    at_end :
        (from : Origin) (actions : Actions) (ending : Ending) → GoesBehind from actions
        → ending.terminator ≡ terminator → ComesTo terminator from (Steps actions (Some ending))
    at_label :
        (label : Spot) (actions : Actions) (ending : Ending) → ending.label ≡ Some label
        → ending.terminator ≡ terminator → ComesTo terminator (AtLabel label) (Steps actions (Some ending))
    inside :
        (from : Origin) (actions : Actions) (ending : Option Ending) → ComesInto terminator from actions
        → ComesTo terminator from (Steps actions ending)

  -- the terminator stands in a part of one of these actions
  pub data ComesInto (terminator : Terminator) : Origin → Actions → Type 0 where
    into :
        (from : Origin) (label : Option Spot) (first : Action) (rest : Actions) (t : Transition) → IsPart t first
        → ComesTo terminator from t → ComesInto terminator from (AndAction label first rest)
    behind :
        (from : Origin) (label : Option Spot) (first : Action) (rest : Actions) → Crosses from first
        → ComesInto terminator AtFirst rest → ComesInto terminator from (AndAction label first rest)
    here :
        (label : Spot) (first : Action) (rest : Actions) → ComesInto terminator AtFirst (AndAction (Some label) first rest)
        → ComesInto terminator (AtLabel label) (AndAction (Some label) first rest)
    afterwards :
        (at : Spot) (label : Option Spot) (first : Action) (rest : Actions) → ComesInto terminator (AtLabel at) rest
        → ComesInto terminator (AtLabel at) (AndAction label first rest)
