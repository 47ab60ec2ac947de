-- What the statements of a transition do (Z.102: task, output, set, reset, create, decision, join, nextstate, stop). A
-- statement has no meaning where a rule is broken in it, where it names what has no sort, or where a constant in it has
-- no value: all of these are told, some where the name is defined.
use Rattle.std.specs.Prelude.{ℤ, List, Option, None, Some, flat_map, is_none, map, option_map, if◌then◌else◌}
use Rattle.port_model.specs.declared.values.item.SignalId.{SignalId}
use Rattle.build_statements.specs.Contexts.{Context, duration_of, label_in, state_in}
use Rattle.build_statements.specs.declared.task.Target.{Target}
use Rattle.build_expressions.specs.Answers.{answer_in}
use Rattle.build_expressions.specs.Partial.{all_some, both}
use Rattle.build_expressions.specs.Scope.{AgentMeaning, Scope, SignalMeaning, agent_in, block, process, signal, signal_in, timer, value_in}
use Rattle.build_expressions.specs.Typing.{Typed, argument_in, taken_term, taken_terms, typed_in}
use Rattle.build_expressions.specs.declared.context.Context.TheVariants.{Transition}
use Rattle.build_expressions.specs.declared.operand_sort.OperandSort.{OperandSort}
use Rattle.build_expressions.specs.declared.scope.ValueMeaning.{ValueMeaning}
use Rattle.build_expressions.specs.declared.scope.ValueMeaning.TheVariants as meant
use Rattle.sdl_system.specs.Body as body
use Rattle.sdl_system.specs.Body.{Action, Assigning, Sending, Setting, Terminator, Timing, When, Whither}
use Rattle.sdl_system.specs.Term.{Term}
use Rattle.sdl_system.specs.declared.answer.Answer as answers
use Rattle.sdl_system.specs.declared.sort.Sort.{Sort}
use Rattle.sdl_system.specs.declared.sort.Sort.TheVariants as sorts
use Rattle.sdl_tree.specs.Tree as tree
use Rattle.sdl_tree.specs.Tree.{Applied, Assignment, Expr, Numeral, Named, Keyword, Active, Paren, Unary, Chain}
use Rattle.sdl_tree.specs.Words.{Spot}

-- the kind and the term of an expression of a transition
abbrev pub asked_in : Context → Expr → Option Typed
asked_in context expression = typed_in Transition context.scope expression

-- the term of an expression at a place of a sort
abbrev pub value_for : Context → Option Sort → Expr → Option Term
value_for context sort expression = taken_term sort (asked_in context expression)

-- the terms of the values behind a name, at places of these sorts
abbrev pub values_for : Context → List (Option Sort) → List Expr → Option (List Term)
values_for context places values = taken_terms places (map (argument_in Transition context.scope) values)

-- ---- task

-- the variable that a name stands for
abbrev pub target_of : Option ValueMeaning → Option Target
target_of None = None
target_of (Some (meant.Variable number sort)) = Some (record { number = number; sort = sort })
target_of (Some (meant.Synonym sort value)) = None

abbrev pub target_in : Context → Spot → Option Target
target_in context name = target_of (value_in context.scope name.text)

-- the sort of the variable, where it is known
abbrev pub sort_of : Option Target → Option Sort
sort_of None = None
sort_of (Some target) = target.sort

abbrev pub assigned : Target → Term → Assigning
assigned target value = record { variable = target.number; value = value }

abbrev pub assigning_in : Context → Assignment → Option Assigning
assigning_in context assignment =
    let target = target_in context assignment.variable in
    both assigned target (value_for context (sort_of target) assignment.value)

abbrev pub task_in : Context → List Assignment → Option Action
task_in context assignments = option_map body.task (all_some (map (assigning_in context) assignments))

-- ---- output

abbrev pub sent : SignalId → List Term → Sending
sent number values = record { signal = number; values = values }

abbrev pub sent_as : Context → List Expr → Option SignalMeaning → Option Sending
sent_as context values None = None
sent_as context values (Some (signal number places)) = option_map (sent number) (values_for context places values)
sent_as context values (Some (timer number places has_default)) = None

-- a signal with its values
abbrev pub sending_in : Context → Applied → Option Sending
sending_in context applied = sent_as context applied.values (signal_in context.scope applied.name.text)

-- the name alone that stands behind `to`, where no variable and no synonym has it
abbrev pub agent_name : Scope → Expr → Option Spot
agent_name scope (Named name) = if is_none (value_in scope name.text) then Some name else None
agent_name scope (Numeral number) = None
agent_name scope (Keyword value word) = None
agent_name scope (Active word name values) = None
agent_name scope (Paren word inner) = None
agent_name scope (Unary operator word operand) = None
agent_name scope (Chain first rest) = None

abbrev pub process_of : Option AgentMeaning → Option Whither
process_of None = None
process_of (Some (process number places)) = Some (body.to_process number)
process_of (Some block) = None

abbrev pub whither_of : Context → Expr → Option Spot → Option Whither
whither_of context value None = option_map body.to_pid (value_for context (Some sorts.Pid) value)
whither_of context value (Some name) = process_of (agent_in context.scope name.text)

-- a destination is a process by its name, or a Pid
abbrev pub whither_in : Context → Expr → Option Whither
whither_in context value = whither_of context value (agent_name context.scope value)

-- where the signals go that have this destination, or none
abbrev pub sent_to : Context → Option tree.Destination → Option (Option Whither)
sent_to context None = Some None
sent_to context (Some destination) = option_map Some (whither_in context destination.value)

abbrev pub output_in : Context → List Applied → Option tree.Destination → Option Action
output_in context outputs destination =
    both body.output (all_some (map (sending_in context) outputs)) (sent_to context destination)

-- ---- set and reset

abbrev pub timed : SignalId → List Term → Timing
timed number values = record { timer = number; values = values }

abbrev pub timed_as : Context → List Expr → Option SignalMeaning → Option Timing
timed_as context values None = None
timed_as context values (Some (signal number places)) = None
timed_as context values (Some (timer number places has_default)) =
    option_map (timed number) (values_for context places values)

-- a timer with its values
abbrev pub timing_in : Context → Applied → Option Timing
timing_in context applied = timed_as context applied.values (signal_in context.scope applied.name.text)

-- the default duration of what a name stands for
abbrev pub default_of : Context → Option SignalMeaning → Option ℤ
default_of context None = None
default_of context (Some (signal number places)) = None
default_of context (Some (timer number places has_default)) = duration_of context number

-- when a timer is due: at the time that is written, or after its default duration
abbrev pub when_in : Context → Spot → Option Expr → Option When
when_in context name None = option_map body.after (default_of context (signal_in context.scope name.text))
when_in context name (Some time) = option_map body.at (value_for context (Some sorts.Time) time)

abbrev pub set_for : Timing → When → Setting
set_for timing due = record { timer = timing; due = due }

abbrev pub setting_in : Context → tree.SetClause → Option Setting
setting_in context clause =
    both set_for (timing_in context clause.timer) (when_in context clause.timer.name clause.time)

abbrev pub set_in : Context → List tree.SetClause → Option Action
set_in context clauses = option_map body.set (all_some (map (setting_in context) clauses))

abbrev pub reset_in : Context → List (List Applied) → Option Action
reset_in context groups = option_map body.reset (all_some (flat_map (map (timing_in context)) groups))

-- ---- create

abbrev pub created_as : Context → List Expr → Option AgentMeaning → Option Action
created_as context values None = None
created_as context values (Some (process number places)) =
    option_map (body.create number) (values_for context places values)
created_as context values (Some block) = None

abbrev pub create_in : Context → Applied → Option Action
create_in context applied = created_as context applied.values (agent_in context.scope applied.name.text)

-- ---- decision

-- the kind of the values of a question
abbrev pub kind_in : Option Typed → Option OperandSort
kind_in None = None
kind_in (Some typed) = Some typed.kind

-- the answers that lead to one part
abbrev pub answers_in : Context → Option OperandSort → List tree.Answer → Option (List answers.Answer)
answers_in context question list = all_some (map (answer_in context.scope question) list)

-- ---- terminators

abbrev pub terminator_in : Context → tree.Terminator → Option Terminator
terminator_in context (tree.Next word (tree.Same dash)) = Some body.to_same
terminator_in context (tree.Next word (tree.To state)) = option_map body.to_state (state_in context state.text)
terminator_in context (tree.Stop word) = Some body.stop
terminator_in context (tree.Join word label) = option_map body.join (label_in context label.text)
