-- When a rule is broken in a transition, and at which word: said of the statements that stand in it, and not of what is
-- noted (Z.102: task, output, set, reset, create, decision, join, nextstate).
use Rattle.std.specs.Prelude.{◌≡◌, Bool, false, List, Option, None, Some}
use Rattle.port_model.specs.declared.values.item.SignalId.{SignalId}
use Rattle.build_statements.specs.BrokenAnswers.{BreaksAnswer}
use Rattle.build_statements.specs.Contexts.{Context, is_reaching, label_in, state_in}
use Rattle.build_statements.specs.Standing.{EndsIn, IsAskedBy, IsPidPlace, StandsIn}
use Rattle.build_statements.specs.Statements.{asked_in, kind_in}
use Rattle.build_statements.specs.Transitions.{transition_faults}
use Rattle.build_names.specs.FaultLaws.{Each, In}
use Rattle.build_names.specs.Faults.{Diagnostic, diagnostic_at}
use Rattle.build_names.specs.declared.faults.fault.Rule.TheVariants.{NoLabel, NoRoute, NoState, Sort, Unknown}
use Rattle.build_expressions.specs.Broken as sorted
use Rattle.build_expressions.specs.Broken.{BreaksPlaces, IsMisfit, IsNoTimer, TimerMeaning}
use Rattle.build_expressions.specs.Scope.{AgentMeaning, Scope, SignalMeaning, agent_in, block, process, signal, signal_in, timer, value_in}
use Rattle.build_expressions.specs.Words.{first_word}
use Rattle.build_expressions.specs.declared.context.Context.TheVariants as place
use Rattle.build_expressions.specs.declared.scope.Constant.{Constant}
use Rattle.build_expressions.specs.declared.scope.ValueMeaning.{ValueMeaning}
use Rattle.build_expressions.specs.declared.scope.ValueMeaning.TheVariants as meant
use Rattle.sdl_system.specs.declared.id.ProcessId.{ProcessId}
use Rattle.sdl_system.specs.declared.id.VariableId.{VariableId}
use Rattle.sdl_system.specs.declared.sort.Sort as sorts
use Rattle.sdl_system.specs.declared.sort.Sort.TheVariants as the_sort
use Rattle.sdl_tree.specs.Tree.{Action, Answer, Applied, Assignment, Create, Decision, Destination, Expr, Join, Named, Next, Otherwise, Output, Part, Parts, Reset, Set, SetClause, Task, Terminator, To, Transition, parts_in}
use Rattle.sdl_tree.specs.Words.{Spot}
use Rattle.sdl_tree.specs.declared.name.Spelling.{Spelling}

-- ---- what names stand for

-- what a name stands for that is no variable's and no formal parameter's
pub data IsNoVariable : Option ValueMeaning → Type 0 where
  no_value : IsNoVariable None
  a_synonym : (sort : Option sorts.Sort) (value : Constant) → IsNoVariable (Some (meant.Synonym sort value))

-- what a name stands for that is no signal's
pub data IsNoSignal : Option SignalMeaning → Type 0 where
  no_signal : IsNoSignal None
  a_timer :
      (number : SignalId) (places : List (Option sorts.Sort)) (has_default : Bool)
      → IsNoSignal (Some (timer number places has_default))

-- what a name stands for that is no process's
pub data IsNoProcess : Option AgentMeaning → Type 0 where
  no_agent : IsNoProcess None
  a_block : IsNoProcess (Some block)

-- the name stands for a signal that takes values at these places
pub record IsSignal (scope : Scope) (name : Spot) : Type 0 where
  pub number : SignalId
  pub places : List (Option sorts.Sort)
  pub meant : signal_in scope name.text ≡ Some (signal number places)

-- the name stands for a process with formal parameters at these places
pub record IsProcess (scope : Scope) (name : Spot) : Type 0 where
  pub number : ProcessId
  pub places : List (Option sorts.Sort)
  pub meant : agent_in scope name.text ≡ Some (process number places)

-- the name stands for a variable of this sort
pub record IsVariable (scope : Scope) (name : Spot) (sort : sorts.Sort) : Type 0 where
  pub number : VariableId
  pub meant : value_in scope name.text ≡ Some (meant.Variable number (Some sort))

-- values behind a name are fewer or more than its places, or one doesn't fit its place
abbrev pub BreaksValues : Context → Applied → List (Option sorts.Sort) → Diagnostic → Type 0
BreaksValues context applied places fault =
    BreaksPlaces place.Transition context.scope applied.name places applied.values fault

-- ---- rules

-- a rule is broken in what an action says, beside what stands in the parts of a decision
pub data BreaksAction (context : Context) : Action → Diagnostic → Type 0 where
  -- an expression's rule is broken in an expression of the action
  expression :
      {action : Action} (asked : Expr) → IsAskedBy context.scope action asked → (fault : Diagnostic)
      → sorted.IsBroken place.Transition context.scope asked fault → BreaksAction context action fault
  -- a task assigns to what is no variable
  no_variable :
      {word : Spelling} {assignments : List Assignment} (assignment : Assignment)
      → In assignment assignments → IsNoVariable (value_in context.scope assignment.variable.text)
      → BreaksAction context (Task word assignments) (diagnostic_at Unknown assignment.variable)
  -- a task assigns a value that doesn't fit the variable
  no_fit :
      {word : Spelling} {assignments : List Assignment} (assignment : Assignment)
      → In assignment assignments → (sort : sorts.Sort) → IsVariable context.scope assignment.variable sort
      → IsMisfit place.Transition context.scope sort assignment.value
      → BreaksAction context (Task word assignments) (diagnostic_at Sort (first_word assignment.value))
  -- an output names what is no signal
  no_output :
      {word : Spelling} {outputs : List Applied} {destination : Option Destination} (output : Applied)
      → In output outputs → IsNoSignal (signal_in context.scope output.name.text)
      → BreaksAction context (Output word outputs destination) (diagnostic_at Unknown output.name)
  -- no path leads a signal from the process, and the output has no destination
  no_route :
      {word : Spelling} {outputs : List Applied} (output : Applied) → In output outputs
      → (meaning : IsSignal context.scope output.name) → is_reaching context meaning.number ≡ false
      → BreaksAction context (Output word outputs None) (diagnostic_at NoRoute output.name)
  -- the values of an output don't fit the parameters of the signal
  sent_values :
      {word : Spelling} {outputs : List Applied} {destination : Option Destination} (output : Applied)
      → In output outputs → (meaning : IsSignal context.scope output.name) (fault : Diagnostic)
      → BreaksValues context output meaning.places fault
      → BreaksAction context (Output word outputs destination) fault
  -- the destination is a name, but of no value and no process
  no_receiver :
      {word : Spelling} {outputs : List Applied} (destination : Destination) (name : Spot)
      → destination.value ≡ Named name → value_in context.scope name.text ≡ None
      → IsNoProcess (agent_in context.scope name.text)
      → BreaksAction context (Output word outputs (Some destination)) (diagnostic_at Unknown name)
  -- the destination is a value that is no Pid
  no_pid :
      {word : Spelling} {outputs : List Applied} (destination : Destination)
      → IsPidPlace context.scope destination.value
      → IsMisfit place.Transition context.scope the_sort.Pid destination.value
      → BreaksAction context (Output word outputs (Some destination))
      (diagnostic_at Sort (first_word destination.value))
  -- what is set is no timer
  no_timer :
      {word : Spelling} {clauses : List SetClause} (clause : SetClause) → In clause clauses
      → IsNoTimer (signal_in context.scope clause.timer.name.text)
      → BreaksAction context (Set word clauses) (diagnostic_at Unknown clause.timer.name)
  -- the values of a set don't fit the parameters of the timer
  set_values :
      {word : Spelling} {clauses : List SetClause} (clause : SetClause) → In clause clauses
      → (meaning : TimerMeaning context.scope clause.timer.name) (fault : Diagnostic)
      → BreaksValues context clause.timer meaning.places fault → BreaksAction context (Set word clauses) fault
  -- the time of a set is no Time
  no_time :
      {word : Spelling} {clauses : List SetClause} (clause : SetClause) → In clause clauses
      → (time : Expr) → clause.time ≡ Some time → IsMisfit place.Transition context.scope the_sort.Time time
      → BreaksAction context (Set word clauses) (diagnostic_at Sort (first_word time))
  -- a set has no time, and the timer no default duration
  no_default :
      {word : Spelling} {clauses : List SetClause} (clause : SetClause) → In clause clauses
      → clause.time ≡ None → (number : SignalId) (places : List (Option sorts.Sort))
      → signal_in context.scope clause.timer.name.text ≡ Some (timer number places false)
      → BreaksAction context (Set word clauses) (diagnostic_at Sort clause.timer.name)
  -- what is reset is no timer
  no_reset :
      {word : Spelling} {groups : List (List Applied)} (group : List Applied) → In group groups
      → (reset : Applied) → In reset group → IsNoTimer (signal_in context.scope reset.name.text)
      → BreaksAction context (Reset word groups) (diagnostic_at Unknown reset.name)
  -- the values of a reset don't fit the parameters of the timer
  reset_values :
      {word : Spelling} {groups : List (List Applied)} (group : List Applied) → In group groups
      → (reset : Applied) → In reset group → (meaning : TimerMeaning context.scope reset.name) (fault : Diagnostic)
      → BreaksValues context reset meaning.places fault → BreaksAction context (Reset word groups) fault
  -- what is created is no process
  no_process :
      {word : Spelling} {created : Applied} → IsNoProcess (agent_in context.scope created.name.text)
      → BreaksAction context (Create word created) (diagnostic_at Unknown created.name)
  -- the values of a create don't fit the formal parameters of the process
  created_values :
      {word : Spelling} {created : Applied} (meaning : IsProcess context.scope created.name) (fault : Diagnostic)
      → BreaksValues context created meaning.places fault → BreaksAction context (Create word created) fault
  -- an answer breaks a rule beside its question
  answer :
      {word : Spelling} {question : Expr} {parts : Parts} {otherwise : Otherwise} (part : Part)
      → In part (parts_in parts) → (said : Answer) → In said part.answers → (fault : Diagnostic)
      → BreaksAnswer context.scope (kind_in (asked_in context question)) said fault
      → BreaksAction context (Decision word question parts otherwise) fault

-- a rule is broken in how a transition ends
pub data BreaksTerminator (context : Context) : Terminator → Diagnostic → Type 0 where
  -- no state list names the next state
  no_state :
      (word : Spelling) (state : Spot) → state_in context state.text ≡ None
      → BreaksTerminator context (Next word (To state)) (diagnostic_at NoState state)
  -- the process has no such label
  no_label :
      (word : Spelling) (label : Spot) → label_in context label.text ≡ None
      → BreaksTerminator context (Join word label) (diagnostic_at NoLabel label)

-- a rule is broken in a transition
pub data IsBroken (context : Context) (whole : Transition) : Diagnostic → Type 0 where
  in_action :
      (action : Action) → StandsIn whole action → (fault : Diagnostic) → BreaksAction context action fault
      → IsBroken context whole fault
  in_terminator :
      (terminator : Terminator) → EndsIn whole terminator → (fault : Diagnostic)
      → BreaksTerminator context terminator fault → IsBroken context whole fault

-- ---- laws

-- Each fault of the list is broken.
abbrev pub ListedBroken : Type 0
ListedBroken = (context : Context) (transition : Transition) →
    Each (IsBroken context transition) (transition_faults context transition)

-- Each rule that is broken is in the list.
abbrev pub BrokenListed : Type 0
BrokenListed = (context : Context) (transition : Transition) (fault : Diagnostic) → IsBroken context transition fault →
    In fault (transition_faults context transition)
