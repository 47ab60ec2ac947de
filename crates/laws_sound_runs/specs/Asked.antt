-- Of which variables the value is asked for (Z.104: variable access).
use Rattle.std.specs.Prelude.{◌≡◌, ◌⊎◌, List, ◌∷◌, Option, None, Some}
use Rattle.run_record.specs.Variables.{VariableList, value_in}
use Rattle.run_semantics.specs.Fails.{conditions_of}
use Rattle.run_semantics.specs.ControlPoint.{Amid, Doing, ControlPoint}
use Rattle.sdl_system.specs.Behaviour.{StateMeaning}
use Rattle.sdl_system.specs.Body as body
use Rattle.sdl_system.specs.Body.{When, Whither}
use Rattle.sdl_system.specs.Term.{Term, Terms, constant, variable, now, pid, active, unary, binary, no_term, and_term, terms_of}
use Rattle.sdl_system.specs.declared.id.VariableId.{VariableId}

-- the term names the variable
abbrev mutual
  pub Asks : VariableId → Term → Type 0
  Asks number (constant value) = ⊥
  Asks number (variable other) = other ≡ number
  Asks number now = ⊥
  Asks number (pid who) = ⊥
  Asks number (active timer values) = AskAny number values
  Asks number (unary operation operand) = Asks number operand
  Asks number (binary operation left right) = Asks number left ⊎ Asks number right

  pub AskAny : VariableId → Terms → Type 0
  AskAny number no_term = ⊥
  AskAny number (and_term first rest) = Asks number first ⊎ AskAny number rest

abbrev pub AskListed : VariableId → List Term → Type 0
AskListed number terms = AskAny number (terms_of terms)

abbrev pub AsksWhom : VariableId → Option Whither → Type 0
AsksWhom number None = ⊥
AsksWhom number (Some (body.to_process process)) = ⊥
AsksWhom number (Some (body.to_pid term)) = Asks number term

abbrev pub AsksWhen : VariableId → When → Type 0
AsksWhen number (body.at time) = Asks number time
AsksWhen number (body.after ticks) = ⊥

-- what is evaluated at the place names the variable
abbrev pub AsksAt : VariableId → ControlPoint → Type 0
AsksAt number (Doing origin (body.decision question parts rest)) = Asks number question
AsksAt number (Amid origin (body.task (one ∷ more)) rest) = Asks number one.value
AsksAt number (Amid origin (body.output (one ∷ more) to) rest) = AsksWhom number to ⊎ AskListed number one.values
AsksAt number (Amid origin (body.set (one ∷ more)) rest) = AsksWhen number one.due ⊎ AskListed number one.timer.values
AsksAt number (Amid origin (body.reset (one ∷ more)) rest) = AskListed number one.values
AsksAt number (Amid origin (body.create process values) rest) = AskListed number values
AsksAt number place = ⊥

-- a variable that has no value is asked for
pub record IsUnassigned (variables : VariableList) (place : ControlPoint) : Type 0 where
  pub number : VariableId
  pub asked : AsksAt number place
  pub unset : value_in variables number ≡ None

-- a condition of the state asks for a variable that has no value
pub record IsUnassignedIn (variables : VariableList) (state : StateMeaning) : Type 0 where
  pub number : VariableId
  pub asked : AskListed number state.enabling ⊎ AskListed number (conditions_of state.continuous)
  pub unset : value_in variables number ≡ None
