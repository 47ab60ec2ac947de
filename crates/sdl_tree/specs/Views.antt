-- The trees of the grammar that the public trees are, with their spellings and places.
use Rattle.std.specs.Prelude.{List, map, option_map, string_bytes}
use Rattle.sdl_tree.specs.declared.behaviour.Action.{Decision', Row_of-AnswerPart, end_of-AnswerPart, more_of-AnswerPart, Held-Action-Decision-3, None', Some'}
use Rattle.sdl_tree.specs.declared.behaviour.Action as action
use Rattle.sdl_tree.specs.declared.behaviour.Answer.{Answer}
use Rattle.sdl_tree.specs.declared.behaviour.Answer.TheVariants as answer
use Rattle.sdl_tree.specs.declared.behaviour.ActionStatement.{ActionStatement}
use Rattle.sdl_tree.specs.declared.behaviour.AnswerPart.{AnswerPart}
use Rattle.sdl_tree.specs.declared.behaviour.AnswerPart as answer_part
use Rattle.sdl_tree.specs.declared.behaviour.Assignment.{Assignment}
use Rattle.sdl_tree.specs.declared.behaviour.BodyPart.{BodyPart}
use Rattle.sdl_tree.specs.declared.behaviour.Destination.{Destination}
use Rattle.sdl_tree.specs.declared.behaviour.EnablingCondition.{EnablingCondition}
use Rattle.sdl_tree.specs.declared.behaviour.BodyPart.TheVariants as body
use Rattle.sdl_tree.specs.declared.behaviour.Input.{Input}
use Rattle.sdl_tree.specs.declared.behaviour.Inputs.{Inputs}
use Rattle.sdl_tree.specs.declared.behaviour.Inputs.TheVariants as inputs
use Rattle.sdl_tree.specs.declared.behaviour.NextState.{NextState}
use Rattle.sdl_tree.specs.declared.behaviour.NextState.TheVariants as next
use Rattle.sdl_tree.specs.declared.behaviour.ResetGroup.{ResetGroup}
use Rattle.sdl_tree.specs.declared.behaviour.Saved.{Saved}
use Rattle.sdl_tree.specs.declared.behaviour.Saved.TheVariants as saved
use Rattle.sdl_tree.specs.declared.behaviour.SetClause.{SetClause}
use Rattle.sdl_tree.specs.declared.behaviour.Start.{Start}
use Rattle.sdl_tree.specs.declared.behaviour.States.{States}
use Rattle.sdl_tree.specs.declared.behaviour.States.TheVariants as states
use Rattle.sdl_tree.specs.declared.behaviour.Stimulus.{Stimulus}
use Rattle.sdl_tree.specs.declared.behaviour.Stimulus.TheVariants as stimulus
use Rattle.sdl_tree.specs.declared.behaviour.Terminator.{Terminator}
use Rattle.sdl_tree.specs.declared.behaviour.Terminator.TheVariants as terminator
use Rattle.sdl_tree.specs.declared.behaviour.TerminatorStatement.{TerminatorStatement}
use Rattle.sdl_tree.specs.declared.behaviour.Transition.{Transition, Transition', Row_of-ActionStatement, end_of-ActionStatement, more_of-ActionStatement}
use Rattle.sdl_tree.specs.declared.definitions.BlockDefinition.{BlockDefinition}
use Rattle.sdl_tree.specs.declared.definitions.BlockPart.{BlockPart}
use Rattle.sdl_tree.specs.declared.definitions.BlockPart.TheVariants as block
use Rattle.sdl_tree.specs.declared.definitions.Bound.{Bound}
use Rattle.sdl_tree.specs.declared.definitions.ChannelConnection.{ChannelConnection}
use Rattle.sdl_tree.specs.declared.definitions.ChannelDefinition.{ChannelDefinition}
use Rattle.sdl_tree.specs.declared.definitions.ChannelEnd.{ChannelEnd}
use Rattle.sdl_tree.specs.declared.definitions.ChannelEnd.TheVariants as channel_end
use Rattle.sdl_tree.specs.declared.definitions.ChannelPath.{ChannelPath}
use Rattle.sdl_tree.specs.declared.definitions.Counts.{Counts}
use Rattle.sdl_tree.specs.declared.definitions.Definition.{Definition}
use Rattle.sdl_tree.specs.declared.definitions.Definition.TheVariants as definition
use Rattle.sdl_tree.specs.declared.definitions.FormalParameters.{FormalParameters}
use Rattle.sdl_tree.specs.declared.definitions.LocalDefinition.{LocalDefinition}
use Rattle.sdl_tree.specs.declared.definitions.LocalDefinition.TheVariants as «local»
use Rattle.sdl_tree.specs.declared.definitions.ParameterGroup.{ParameterGroup}
use Rattle.sdl_tree.specs.declared.definitions.ProcessDefinition.{ProcessDefinition}
use Rattle.sdl_tree.specs.declared.definitions.SignalDefinition.{SignalDefinition}
use Rattle.sdl_tree.specs.declared.definitions.SignalListDefinition.{SignalListDefinition}
use Rattle.sdl_tree.specs.declared.definitions.SignalListItem.{SignalListItem}
use Rattle.sdl_tree.specs.declared.definitions.SignalListItem.TheVariants as item
use Rattle.sdl_tree.specs.declared.definitions.SignalSet.{SignalSet}
use Rattle.sdl_tree.specs.declared.definitions.SynonymDefinition.{SynonymDefinition}
use Rattle.sdl_tree.specs.declared.definitions.SynonymDefinitions.{SynonymDefinitions}
use Rattle.sdl_tree.specs.declared.definitions.SystemDefinition.{SystemDefinition}
use Rattle.sdl_tree.specs.declared.definitions.SystemDefinition.TheVariants as system
use Rattle.sdl_tree.specs.declared.definitions.TimerDefinition.{TimerDefinition}
use Rattle.sdl_tree.specs.declared.definitions.TimerDefinitions.{TimerDefinitions}
use Rattle.sdl_tree.specs.declared.definitions.Tree.{Tree}
use Rattle.sdl_tree.specs.declared.definitions.VariableGroup.{VariableGroup}
use Rattle.sdl_tree.specs.declared.expressions.Applied.{Applied}
use Rattle.sdl_tree.specs.declared.expressions.Chain.{Chain, Row_of-Link, end_of-Link, more_of-Link}
use Rattle.sdl_tree.specs.declared.expressions.Chain as chain
use Rattle.sdl_tree.specs.declared.expressions.Expression.{Expression, Active', Parenthesized', Unary', Chain', Row_of-Expression, end_of-Expression, more_of-Expression}
use Rattle.sdl_tree.specs.declared.expressions.Expression as expression
use Rattle.sdl_tree.specs.declared.expressions.Link.{Link}
use Rattle.sdl_tree.specs.declared.name.Name.{Name}
use Rattle.sdl_tree.specs.declared.name.Number.{Number}
use Rattle.sdl_tree.specs.declared.name.SortName.{SortName}
use Rattle.sdl_tree.specs.Tree as tree
use Rattle.sdl_tree.specs.Words.{Spot}

abbrev pub name_value : Name → Spot
name_value x = record { text = string_bytes x.text; place = x.place }

abbrev pub names_value : List Name → List Spot
names_value xs = map name_value xs

abbrev pub sort_value : SortName → Spot
sort_value s = name_value s.spelled

abbrev pub sorts_value : List SortName → List Spot
sorts_value ss = map sort_value ss

abbrev pub number_value : Number → tree.Number
number_value n = record { value = n.value; digits = name_value n.digits }

-- ---- expressions

abbrev mutual
  pub expr_value : Expression → tree.Expr
  expr_value (expression.Number n) = tree.Numeral (number_value n)
  expr_value (expression.Name x) = tree.Named (name_value x)
  expr_value (expression.Keyword value word) = tree.Keyword value word
  expr_value (Active' word timer shape values) = tree.Active word (name_value timer) (row_value values)
  expr_value (Parenthesized' parenthesis p inner) = tree.Paren parenthesis (expr_value inner)
  expr_value (Unary' operator word p operand) = tree.Unary operator word (expr_value operand)
  expr_value (Chain' p c) = chain_value c

  pub chain_value : Chain → tree.Expr
  chain_value (chain.Chain' first shape rest) = tree.Chain (expr_value first) (links_value rest)

  -- operators with their operands
  pub links_value : {m : _} → Row_of-Link m → tree.Links
  links_value end_of-Link = tree.NoLink
  links_value (more_of-Link operator word operand rest) = tree.AndLink operator word (expr_value operand) (links_value rest)

  pub row_value : {m : _} → Row_of-Expression m → tree.Exprs
  row_value end_of-Expression = tree.NoExpr
  row_value (more_of-Expression e rest) = tree.AndExpr (expr_value e) (row_value rest)

abbrev pub link_value : Link → tree.Link
link_value l = record { operator = l.operator; word = l.word; operand = expr_value l.operand }

abbrev pub applied_value : Applied → tree.Applied
applied_value a = record { name = name_value a.name; values = map expr_value a.values.items }

-- ---- transitions

abbrev pub assignment_value : Assignment → tree.Assignment
assignment_value a = record { variable = name_value a.variable; value = expr_value a.value }

abbrev pub destination_value : Destination → tree.Destination
destination_value d = record { word = d.word; value = expr_value d.value }

abbrev pub clause_value : SetClause → tree.SetClause
clause_value c = record { time = option_map expr_value c.time; timer = applied_value c.timer }

abbrev pub group_value : ResetGroup → List tree.Applied
group_value g = map applied_value g.timers.items

abbrev pub answer_value : Answer → tree.Answer
answer_value (answer.Value e) = tree.Value (expr_value e)
answer_value (answer.Range first last) = tree.Range (expr_value first) (expr_value last)
answer_value (answer.Compared operator word e) = tree.Compared operator word (expr_value e)

abbrev pub next_state_value : NextState → tree.NextState
next_state_value (next.Same word) = tree.Same word
next_state_value (next.Named x) = tree.To (name_value x)

abbrev pub terminator_value : Terminator → tree.Terminator
terminator_value (terminator.NextState word state) = tree.Next word (next_state_value state)
terminator_value (terminator.Stop word) = tree.Stop word
terminator_value (terminator.Join word label) = tree.Join word (name_value label)

abbrev pub ending_value : TerminatorStatement → tree.Ending
ending_value t = record { label = option_map name_value t.label; terminator = terminator_value t.terminator }

abbrev mutual
  pub transition_value : Transition → tree.Transition
  transition_value (Transition' shape actions ending) = tree.Steps (actions_value actions) (option_map ending_value ending)

  pub actions_value : {m : _} → Row_of-ActionStatement m → tree.Actions
  actions_value end_of-ActionStatement = tree.NoAction
  actions_value (more_of-ActionStatement label first rest) = tree.AndAction (option_map name_value label) (action_value first) (actions_value rest)

  pub action_value : action.Action → tree.Action
  action_value (action.Task word assignments) = tree.Task word (map assignment_value assignments.items)
  action_value (action.Output word outputs destination) = tree.Output word (map applied_value outputs.items) (option_map destination_value destination)
  action_value (action.Set word clauses) = tree.Set word (map clause_value clauses.items)
  action_value (action.Reset word groups) = tree.Reset word (map group_value groups.items)
  action_value (action.Create word process) = tree.Create word (applied_value process)
  action_value (Decision' word question shape parts otherwise) = tree.Decision word (expr_value question) (parts_value parts) (otherwise_value otherwise)

  pub parts_value : {m : _} → Row_of-AnswerPart m → tree.Parts
  parts_value end_of-AnswerPart = tree.NoPart
  parts_value (more_of-AnswerPart part rest) = part_value part (parts_value rest)

  pub part_value : AnswerPart → tree.Parts → tree.Parts
  part_value (answer_part.AnswerPart' answers transition) rest = tree.AndPart (map answer_value answers.items) (transition_value transition) rest

  pub otherwise_value : Held-Action-Decision-3 → tree.Otherwise
  otherwise_value None' = tree.NoElse
  otherwise_value (Some' transition) = tree.Else (transition_value transition)

abbrev pub statement_value : ActionStatement → tree.Statement
statement_value s = record { label = option_map name_value s.label; action = action_value s.action }

abbrev pub answer_part_value : AnswerPart → tree.Part
answer_part_value (answer_part.AnswerPart' answers transition) =
    record { answers = map answer_value answers.items; transition = transition_value transition }

abbrev pub start_value : Start → tree.Start
start_value s = record { word = s.word; transition = transition_value s.transition }

-- ---- states

abbrev pub item_value : SignalListItem → tree.SignalListItem
item_value (item.Signal x) = tree.SignalItem (name_value x)
item_value (item.List x) = tree.ListItem (name_value x)

abbrev pub items_value : List SignalListItem → List tree.SignalListItem
items_value xs = map item_value xs

abbrev pub input_value : Input → tree.Input
input_value i = record { signal = name_value i.signal; variables = map (option_map name_value) i.variables.items }

abbrev pub condition_value : EnablingCondition → tree.Condition
condition_value c = record { word = c.word; condition = expr_value c.condition }

abbrev pub inputs_value : Inputs → tree.Inputs
inputs_value (inputs.Listed is) = tree.InputList (map input_value is.items)
inputs_value (inputs.All asterisk) = tree.InputAll asterisk

abbrev pub saved_value : Saved → tree.Saved
saved_value (saved.Listed items) = tree.SaveList (items_value items.items)
saved_value (saved.All asterisk) = tree.SaveAll asterisk

abbrev pub stimulus_value : Stimulus → tree.Stimulus
stimulus_value (stimulus.Input s) = tree.InputPart s.word (inputs_value s.inputs) (option_map condition_value s.condition) (transition_value s.transition)
stimulus_value (stimulus.Priority s) = tree.PriorityInput s.word (map input_value s.inputs.items) (transition_value s.transition)
stimulus_value (stimulus.Save s) = tree.SavePart s.word (saved_value s.saved)
stimulus_value (stimulus.Continuous s) =
    tree.ContinuousSignal s.word (expr_value s.condition) (option_map number_value s.priority) (transition_value s.transition)

abbrev pub states_value : States → tree.States
states_value (states.Named names) = tree.StateList (names_value names.items)
states_value (states.All asterisk except) = tree.StateAll asterisk (names_value except.items)

abbrev pub body_part_value : BodyPart → tree.BodyPart
body_part_value (body.State s) = tree.StatePart (states_value s.states) (map stimulus_value s.stimuli.items)
body_part_value (body.FreeAction f) = tree.FreeAction f.word (name_value f.label) (transition_value f.transition)

-- ---- definitions

abbrev pub signal_value : SignalDefinition → tree.SignalDefinition
signal_value s = record { name = name_value s.name; sorts = sorts_value s.sorts.items }

abbrev pub signal_list_value : SignalListDefinition → tree.SignalListDefinition
signal_list_value l = record { word = l.word; name = name_value l.name; items = items_value l.items.items }

abbrev pub synonym_value : SynonymDefinition → tree.SynonymDefinition
synonym_value s = record { name = name_value s.name; sort = sort_value s.sort; value = expr_value s.value }

abbrev pub synonyms_value : SynonymDefinitions → tree.SynonymDefinitions
synonyms_value s = record { word = s.word; synonyms = map synonym_value s.synonyms.items }

abbrev pub parameters_value : ParameterGroup → tree.ParameterGroup
parameters_value g = record { names = names_value g.names.items; sort = sort_value g.sort }

abbrev pub fpar_value : FormalParameters → tree.FormalParameters
fpar_value f = record { word = f.word; groups = map parameters_value f.groups.items }

abbrev pub variables_value : VariableGroup → tree.VariableGroup
variables_value g = record { names = names_value g.names.items; sort = sort_value g.sort; initial = option_map expr_value g.initial }

abbrev pub timer_value : TimerDefinition → tree.TimerDefinition
timer_value t = record { name = name_value t.name; sorts = sorts_value t.sorts.items; duration = option_map expr_value t.duration }

abbrev pub timers_value : TimerDefinitions → tree.TimerDefinitions
timers_value t = record { word = t.word; timers = map timer_value t.timers.items }

abbrev pub signal_set_value : SignalSet → tree.SignalSet
signal_set_value s = record { word = s.word; items = items_value s.items.items }

abbrev pub local_value : LocalDefinition → tree.LocalDefinition
local_value («local».Signals signals) = tree.LocalSignals (map signal_value signals.items)
local_value («local».SignalList list) = tree.LocalSignalList (signal_list_value list)
local_value («local».Synonyms synonyms) = tree.LocalSynonyms (synonyms_value synonyms)
local_value («local».SignalSet signals) = tree.LocalSignalSet (signal_set_value signals)
local_value («local».Variables groups) = tree.Variables (map variables_value groups.items)
local_value («local».Timers timers) = tree.Timers (timers_value timers)

abbrev pub bound_value : Bound → tree.Bound
bound_value b = record { maximum = option_map expr_value b.maximum }

abbrev pub counts_value : Counts → tree.Counts
counts_value c = record { parenthesis = c.parenthesis; initial = option_map expr_value c.initial; bound = option_map bound_value c.bound }

abbrev pub process_value : ProcessDefinition → tree.ProcessDefinition
process_value p = record {
  word = p.word;
  name = name_value p.name;
  counts = option_map counts_value p.counts;
  parameters = option_map fpar_value p.parameters;
  definitions = map local_value p.definitions.items;
  start = start_value p.start;
  body = map body_part_value p.body.items;
}

abbrev pub end_value : ChannelEnd → tree.ChannelEnd
end_value (channel_end.Env word) = tree.Env word
end_value (channel_end.Agent x) = tree.Agent (name_value x)

abbrev pub path_value : ChannelPath → tree.ChannelPath
path_value p = record { from = end_value p.from; to = end_value p.to; signals = items_value p.signals.items }

abbrev pub channel_value : ChannelDefinition → tree.ChannelDefinition
channel_value c = record {
  word = c.word;
  name = name_value c.name;
  is_nodelay = c.is_nodelay;
  first = path_value c.first;
  second = option_map path_value c.second;
}

abbrev pub definition_value : Definition → tree.Definition
definition_value (definition.Signals signals) = tree.Signals (map signal_value signals.items)
definition_value (definition.SignalList list) = tree.SignalList (signal_list_value list)
definition_value (definition.Synonyms synonyms) = tree.Synonyms (synonyms_value synonyms)
definition_value (definition.Channel channel) = tree.Channel (channel_value channel)
definition_value (definition.Process process) = tree.Process (process_value process)

abbrev pub connection_value : ChannelConnection → tree.Connection
connection_value c = record { word = c.word; outer = names_value c.outer.items; inner = names_value c.inner.items }

abbrev pub block_part_value : BlockPart → tree.BlockPart
block_part_value (block.Shared d) = tree.InBlock (definition_value d)
block_part_value (block.Connect c) = tree.Connect (connection_value c)

abbrev pub block_value : BlockDefinition → tree.BlockDefinition
block_value b = record { word = b.word; name = name_value b.name; definitions = map block_part_value b.definitions.items }

abbrev pub system_definition_value : SystemDefinition → tree.SystemDefinition
system_definition_value (system.Shared d) = tree.InSystem (definition_value d)
system_definition_value (system.Block b) = tree.Block (block_value b)

abbrev pub tree_value : Tree → tree.Tree
tree_value t = record { name = name_value t.name; definitions = map system_definition_value t.definitions.items }
