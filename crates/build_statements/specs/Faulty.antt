-- The rules that the statements of a transition break, each at the word where it does, in the order of the text (Z.102:
-- task, output, set, reset, create, decision, join, nextstate).
use Rattle.std.specs.Prelude.{◌++◌, ◌&&◌, not, Bool, true, false, List, [], ◌∷◌, Option, None, Some, flat_map, is_none}
use Rattle.port_model.specs.declared.values.item.SignalId.{SignalId}
use Rattle.build_statements.specs.Contexts.{Context, is_reaching, label_in, state_in}
use Rattle.build_statements.specs.Statements.{agent_name, sort_of, target_in}
use Rattle.build_names.specs.Faults.{Diagnostic, fault_if, diagnostic_at}
use Rattle.build_names.specs.declared.faults.fault.Rule.TheVariants.{NoLabel, NoRoute, NoState, Unknown}
use Rattle.build_names.specs.declared.faults.fault.Rule.TheVariants as broken
use Rattle.build_expressions.specs.Answers.{answer_faults}
use Rattle.build_expressions.specs.Misused.{expression_faults, list_faults, place_faults}
use Rattle.build_expressions.specs.Scope.{AgentMeaning, SignalMeaning, agent_in, block, process, signal, signal_in, timer}
use Rattle.build_expressions.specs.declared.context.Context.TheVariants.{Transition}
use Rattle.build_expressions.specs.declared.operand_sort.OperandSort.{OperandSort}
use Rattle.sdl_system.specs.declared.sort.Sort.{Sort}
use Rattle.sdl_system.specs.declared.sort.Sort.TheVariants as sorts
use Rattle.sdl_tree.specs.Tree as tree
use Rattle.sdl_tree.specs.Tree.{Applied, Assignment, Expr}
use Rattle.sdl_tree.specs.Words.{Spot}

-- the faults of an expression of a transition
abbrev pub asked_faults : Context → Expr → List Diagnostic
asked_faults context expression = expression_faults Transition context.scope expression

-- and those of one at a place of a sort
abbrev pub value_faults : Context → Option Sort → Expr → List Diagnostic
value_faults context sort expression = place_faults Transition context.scope sort expression

-- of values behind a name, at places of these sorts
abbrev pub values_faults : Context → Spot → List (Option Sort) → List Expr → List Diagnostic
values_faults context name places values = list_faults Transition context.scope name places values

-- of a name that means nothing here, and of the values behind it
abbrev pub unknown_faults : Context → Spot → List Expr → List Diagnostic
unknown_faults context name values = diagnostic_at Unknown name ∷ flat_map (asked_faults context) values

-- ---- task

-- the name of no variable, and a value that is faulty or doesn't fit the variable
abbrev pub assignment_faults : Context → Assignment → List Diagnostic
assignment_faults context assignment =
    fault_if (is_none (target_in context assignment.variable)) Unknown assignment.variable
    ++ value_faults context (sort_of (target_in context assignment.variable)) assignment.value

-- ---- output

-- whether the signal, sent with a destination or without one, gets nowhere
abbrev pub is_lost : Context → Bool → SignalId → Bool
is_lost context has_destination number = not has_destination && not (is_reaching context number)

abbrev pub sent_faults : Context → Bool → Spot → List Expr → Option SignalMeaning → List Diagnostic
sent_faults context has_destination name values None = unknown_faults context name values
sent_faults context has_destination name values (Some (timer number places has_default)) =
    unknown_faults context name values
sent_faults context has_destination name values (Some (signal number places)) =
    fault_if (is_lost context has_destination number) NoRoute name ++ values_faults context name places values

-- the name of no signal, or of one that no path leads from the process; and values that don't fit its parameters
abbrev pub sending_faults : Context → Bool → Applied → List Diagnostic
sending_faults context has_destination applied =
    sent_faults context has_destination applied.name applied.values (signal_in context.scope applied.name.text)

abbrev pub process_faults : Spot → Option AgentMeaning → List Diagnostic
process_faults name None = diagnostic_at Unknown name ∷ []
process_faults name (Some (process number places)) = []
process_faults name (Some block) = diagnostic_at Unknown name ∷ []

abbrev pub whither_faults : Context → Expr → Option Spot → List Diagnostic
whither_faults context value None = value_faults context (Some sorts.Pid) value
whither_faults context value (Some name) = process_faults name (agent_in context.scope name.text)

-- a destination that is no process and no Pid
abbrev pub destination_faults : Context → Option tree.Destination → List Diagnostic
destination_faults context None = []
destination_faults context (Some destination) =
    whither_faults context destination.value (agent_name context.scope destination.value)

abbrev pub has_destination : Option tree.Destination → Bool
has_destination None = false
has_destination (Some destination) = true

abbrev pub output_faults : Context → List Applied → Option tree.Destination → List Diagnostic
output_faults context outputs destination =
    flat_map (sending_faults context (has_destination destination)) outputs ++ destination_faults context destination

-- ---- set and reset

abbrev pub timed_faults : Context → Spot → List Expr → Option SignalMeaning → List Diagnostic
timed_faults context name values None = unknown_faults context name values
timed_faults context name values (Some (signal number places)) = unknown_faults context name values
timed_faults context name values (Some (timer number places has_default)) = values_faults context name places values

-- the name of no timer, and values that don't fit its parameters
abbrev pub timing_faults : Context → Applied → List Diagnostic
timing_faults context applied =
    timed_faults context applied.name applied.values (signal_in context.scope applied.name.text)

-- whether it is a timer without a default duration
abbrev pub lacks_default : Option SignalMeaning → Bool
lacks_default None = false
lacks_default (Some (signal number places)) = false
lacks_default (Some (timer number places has_default)) = not has_default

-- a timer without a time and without a default duration
abbrev pub default_faults : Context → Spot → Option Expr → List Diagnostic
default_faults context name (Some time) = []
default_faults context name None =
    fault_if (lacks_default (signal_in context.scope name.text)) broken.Sort name

abbrev pub time_faults : Context → Option Expr → List Diagnostic
time_faults context None = []
time_faults context (Some time) = value_faults context (Some sorts.Time) time

abbrev pub setting_faults : Context → tree.SetClause → List Diagnostic
setting_faults context clause =
    time_faults context clause.time
    ++ (default_faults context clause.timer.name clause.time ++ timing_faults context clause.timer)

-- ---- create

abbrev pub created_faults : Context → Spot → List Expr → Option AgentMeaning → List Diagnostic
created_faults context name values None = unknown_faults context name values
created_faults context name values (Some (process number places)) = values_faults context name places values
created_faults context name values (Some block) = unknown_faults context name values

-- the name of no process, and values that don't fit its formal parameters
abbrev pub create_faults : Context → Applied → List Diagnostic
create_faults context applied =
    created_faults context applied.name applied.values (agent_in context.scope applied.name.text)

-- ---- decision

abbrev pub answers_faults : Context → Option OperandSort → List tree.Answer → List Diagnostic
answers_faults context question list = flat_map (answer_faults context.scope question) list

-- ---- terminators

-- a state, or a label, that the process doesn't have
abbrev pub terminator_faults : Context → tree.Terminator → List Diagnostic
terminator_faults context (tree.Next word (tree.Same dash)) = []
terminator_faults context (tree.Next word (tree.To state)) =
    fault_if (is_none (state_in context state.text)) NoState state
terminator_faults context (tree.Stop word) = []
terminator_faults context (tree.Join word label) = fault_if (is_none (label_in context label.text)) NoLabel label
