-- Which rule it is that is broken in an expression, a stimulus, a transition or in what joins the agents: none is
-- a limit.
use Rattle.std.proofs.Common.{◌≡◌, ◌∙◌, ◌++◌, List, Option, Some, ap, sym}
use Rattle.build_process.specs.Bodies.{bodies_faults, statement_faults}
use Rattle.laws_broken.specs.Limits.{IsNoLimit, NoLimitInBodies, NoLimitInNetwork}
use Rattle.build_definitions.specs.Definitions.{Rows}
use Rattle.build_flow.proofs.EndlessLaws.{listed-endless}
use Rattle.build_flow.specs.Beginnings.{beginnings}
use Rattle.build_flow.specs.Broken.{IsEndless}
use Rattle.build_flow.specs.Ends.{ends_faults}
use Rattle.build_flow.specs.Reach.{met_from}
use Rattle.build_flow.specs.Stays.{stay_fault, stay_faults}
use Rattle.build_definitions.specs.declared.symbols.symbol_table.SymbolTable.{SymbolTable}
use Rattle.build_network.proofs.ListedLaws as network_laws
use Rattle.build_network.specs.Broken as network
use Rattle.build_network.specs.Network.{network_faults}
use Rattle.build_statements.proofs.ListedLaws as node_laws
use Rattle.build_statements.specs.Broken as nodes
use Rattle.build_statements.specs.BrokenAnswers as answers
use Rattle.build_statements.specs.Contexts as node_contexts
use Rattle.build_statements.specs.Statements.{asked_in, kind_in}
use Rattle.build_process.specs.Faulty.{flow_faults}
use Rattle.build_process.specs.ProcessScope.{for_stimuli, for_transitions}
use Rattle.build_names.proofs.FaultLemmas.{each-both, each-of}
use Rattle.build_names.specs.FaultLaws.{Each}
use Rattle.build_names.specs.Faults.{Diagnostic}
use Rattle.build_names.specs.declared.faults.fault.Rule.TheVariants.{Limit, NoEnd, NoState}
use Rattle.build_expressions.proofs.ListedLaws.{each-weaker}
use Rattle.build_expressions.specs.Broken as sorted
use Rattle.build_expressions.specs.Scope.{Scope, signal_in}
use Rattle.build_expressions.specs.declared.context.Context.{Context}
use Rattle.build_expressions.specs.declared.context.Context.TheVariants as place
use Rattle.build_expressions.specs.declared.operand_sort.OperandSort as sort_kinds
use Rattle.build_states.proofs.BrokenLaws as state_laws
use Rattle.build_states.specs.Broken as states
use Rattle.build_states.specs.States.{process_faults, states_faults}
use Rattle.build_states.proofs.StimuliBrokenLaws as stimulus_laws
use Rattle.build_states.specs.StimuliBroken as stimuli
use Rattle.build_states.specs.Context as stimulus_contexts
use Rattle.build_states.specs.Mentions.{parameters_of}
use Rattle.build_states.specs.Reading.{body_faults}
use Rattle.sdl_system.specs.declared.sort.Sort as sorts
use Rattle.sdl_system.specs.declared.sort.Sort.TheVariants.{Boolean}
use Rattle.sdl_tree.specs.Tree.{Action, Answer, BodyPart, Expr, Input, Join, Next, ProcessDefinition, Same, SignalListItem, Stimulus, Stop, Terminator, To, Transition, exprs_in}
use Rattle.sdl_tree.specs.Words.{Spot}

-- ---- expressions

module _ (context : Context) (scope : Scope) where
  places-rule : (name : Spot) (places : List (Option sorts.Sort)) (values : List Expr) (fault : Diagnostic) →
      sorted.BreaksPlaces context scope name places values fault → IsNoLimit fault
  places-rule name places values fault (sorted.count differ) is = cc
  places-rule name places values fault (sorted.misfit value same has) is = cc

  expression-rule : (whole : Expr) (fault : Diagnostic) → sorted.IsBroken context scope whole fault → IsNoLimit fault
  expression-rule whole fault (sorted.unknown name within none) is = cc
  expression-rule whole fault (sorted.variable name number sort within meant isnt) is = cc
  expression-rule whole fault (sorted.keyword value word within isnt) is = cc
  expression-rule whole fault (sorted.active word name values within isnt) is = cc
  expression-rule whole fault (sorted.no_timer word name values within none) is = cc
  expression-rule whole fault (sorted.timer_values word name values within meaning told breaks) is =
      places-rule name meaning.places (exprs_in values) told breaks is
  expression-rule whole fault (sorted.unary operator word operand within typed typed_is none) is = cc
  expression-rule whole fault (sorted.binary left operator word right operation first second one two none) is = cc

  placed-rule : (sort : Option sorts.Sort) (whole : Expr) (fault : Diagnostic) →
      sorted.IsBrokenAt context scope sort whole fault → IsNoLimit fault
  placed-rule sort whole fault (sorted.inside told breaks) is = expression-rule whole told breaks is
  placed-rule sort whole fault (sorted.misfit wanted wanted_is misfit) is = cc

-- ---- stimuli and states

module _ (context : stimulus_contexts.Context) where
  taken-rule : (parameters : List (Option sorts.Sort)) (variables : List (Option Spot)) (fault : Diagnostic) →
      stimuli.BreaksPlaces context.scope parameters variables fault → IsNoLimit fault
  taken-rule parameters variables fault (stimuli.unknown name at takes isnt) is = cc
  taken-rule parameters variables fault (stimuli.unfit name at takes number sort parameter meant sort_is unfit) is = cc

  input-rule : (input : Input) (fault : Diagnostic) → stimuli.BreaksInput context input fault → IsNoLimit fault
  input-rule input fault (stimuli.unknown_signal none) is = cc
  input-rule input fault (stimuli.more_places meaning meaning_is more) is = cc
  input-rule input fault (stimuli.at_place told breaks) is =
      taken-rule (parameters_of (signal_in context.scope input.signal.text)) input.variables told breaks is

  item-rule : (listed : SignalListItem) (fault : Diagnostic) → stimuli.BreaksItem context listed fault → IsNoLimit fault
  item-rule listed fault (stimuli.no_signal name none) is = cc
  item-rule listed fault (stimuli.no_list name none) is = cc

  stimulus-rule : (stimulus : Stimulus) (fault : Diagnostic) → stimuli.BreaksStimulus context stimulus fault →
      IsNoLimit fault
  stimulus-rule stimulus fault (stimuli.of_input word inputs condition transition input told among breaks) is =
      input-rule input told breaks is
  stimulus-rule stimulus fault (stimuli.of_enabling word inputs condition transition told breaks) is =
      placed-rule place.Condition context.scope (Some Boolean) condition.condition told breaks is
  stimulus-rule stimulus fault (stimuli.of_priority_input word inputs transition input told among breaks) is =
      input-rule input told breaks is
  stimulus-rule stimulus fault (stimuli.of_save word items listed told among breaks) is =
      item-rule listed told breaks is
  stimulus-rule stimulus fault (stimuli.of_continuous word condition priority transition told breaks) is =
      placed-rule place.Condition context.scope (Some Boolean) condition told breaks is

  state-rule : (body : List BodyPart) (fault : Diagnostic) → states.IsBroken context body fault → IsNoLimit fault
  state-rule body fault (states.twice name word among again) is = cc
  state-rule body fault (states.no_state asterisk except listed name among left_out isnt) is = cc

-- ---- transitions

module _ (scope : Scope) (question : Option sort_kinds.OperandSort) where
  value-rule : (value : Expr) (fault : Diagnostic) → answers.BreaksValue scope question value fault → IsNoLimit fault
  value-rule value fault (answers.inside told breaks) is = expression-rule place.Constant scope value told breaks is
  value-rule value fault (answers.incomparable asked asked_is typed typed_is none) is = cc
  value-rule value fault (answers.no_value without) is = cc

  answer-rule : (answer : Answer) (fault : Diagnostic) → answers.BreaksAnswer scope question answer fault →
      IsNoLimit fault
  answer-rule answer fault (answers.in_value value value_is told breaks) is = value-rule value told breaks is
  answer-rule answer fault (answers.unordered_range low high asked asked_is unordered) is = cc
  answer-rule answer fault (answers.unordered operator word value asked asked_is unordered ordering) is = cc
  answer-rule answer fault (answers.no_comparison operator word value isnt) is = cc

module _ (context : node_contexts.Context) where
  values-rule : (name : Spot) (places : List (Option sorts.Sort)) (values : List Expr) (fault : Diagnostic) →
      sorted.BreaksPlaces place.Transition context.scope name places values fault → IsNoLimit fault
  values-rule name places values fault breaks =
      places-rule place.Transition context.scope name places values fault breaks

  action-rule : (action : Action) (fault : Diagnostic) → nodes.BreaksAction context action fault → IsNoLimit fault
  action-rule action fault (nodes.expression asked asked_is told breaks) is =
      expression-rule place.Transition context.scope asked told breaks is
  action-rule action fault (nodes.no_variable assignment among isnt) is = cc
  action-rule action fault (nodes.no_fit assignment among sort variable misfit) is = cc
  action-rule action fault (nodes.no_output output among isnt) is = cc
  action-rule action fault (nodes.no_route output among meaning unreached) is = cc
  action-rule action fault (nodes.sent_values output among meaning told breaks) is =
      values-rule output.name meaning.places output.values told breaks is
  action-rule action fault (nodes.no_receiver destination name name_is free isnt) is = cc
  action-rule action fault (nodes.no_pid destination asked misfit) is = cc
  action-rule action fault (nodes.no_timer clause among isnt) is = cc
  action-rule action fault (nodes.set_values clause among meaning told breaks) is =
      values-rule clause.timer.name meaning.places clause.timer.values told breaks is
  action-rule action fault (nodes.no_time clause among time time_is misfit) is = cc
  action-rule action fault (nodes.no_default clause among none number places meant) is = cc
  action-rule action fault (nodes.no_reset group among reset within isnt) is = cc
  action-rule action fault (nodes.reset_values group among reset within meaning told breaks) is =
      values-rule reset.name meaning.places reset.values told breaks is
  action-rule action fault (nodes.no_process isnt) is = cc
  action-rule action fault (nodes.created_values {word} {created} meaning told breaks) is =
      values-rule created.name meaning.places created.values told breaks is
  action-rule action fault (nodes.answer {word} {question} part among said within told breaks) is =
      answer-rule context.scope (kind_in (asked_in context question)) said told breaks is

  terminator-rule : (terminator : Terminator) (fault : Diagnostic) → nodes.BreaksTerminator context terminator fault →
      IsNoLimit fault
  terminator-rule terminator fault (nodes.no_state word state none) is = cc
  terminator-rule terminator fault (nodes.no_label word label none) is = cc

  transition-rule : (whole : Transition) (fault : Diagnostic) → nodes.IsBroken context whole fault → IsNoLimit fault
  transition-rule whole fault (nodes.in_action action stands told breaks) is = action-rule action told breaks is
  transition-rule whole fault (nodes.in_terminator terminator ends told breaks) is =
      terminator-rule terminator told breaks is

-- ---- ends of transitions

no-end : NoEnd ≡ Limit → ⊥
no-end is = cc

endless-rule : (process : ProcessDefinition) (fault : Diagnostic) → IsEndless process fault → IsNoLimit fault
endless-rule process fault endless is = no-end (sym (ap (λ (f : Diagnostic). f.rule) endless.told_is) ∙ is)

no-state : NoState ≡ Limit → ⊥
no-state is = cc

stay-rule : (terminator : Terminator) → Each IsNoLimit (stay_fault terminator)
stay-rule (Next word (Same dash)) = (no-state, tt)
stay-rule (Next word (To state)) = tt
stay-rule (Stop word) = tt
stay-rule (Join word label) = tt

-- ---- what joins the agents

broken-rule : (rows : Rows) (symbols : SymbolTable) (fault : Diagnostic) → network.IsBroken rows symbols fault →
    IsNoLimit fault
broken-rule rows symbols fault (network.in_list list at listed among isnt) is = cc
broken-rule rows symbols fault (network.no_beginning channel at path path_is name from isnt) is = cc
broken-rule rows symbols fault (network.no_end channel at path path_is name to isnt) is = cc
broken-rule rows symbols fault (network.carried channel at path path_is listed among isnt) is = cc
broken-rule rows symbols fault (network.in_set number process at signals among listed within isnt) is = cc
broken-rule rows symbols fault (network.no_outer connection at name among isnt) is = cc
broken-rule rows symbols fault (network.no_inner connection at name among isnt) is = cc

-- ---- the lists

pub network-limits : NoLimitInNetwork
network-limits rows symbols =
    each-weaker (network.IsBroken rows symbols) IsNoLimit (network_faults rows symbols) (broken-rule rows symbols)
    (network_laws.listed-broken rows symbols)

pub body-limits : NoLimitInBodies
body-limits around process names =
    let context : stimulus_contexts.Context = for_stimuli around in
    let others : node_contexts.Context = for_transitions around in
    each-both IsNoLimit (process_faults context process) (flow_faults around process names)
    (each-both IsNoLimit (body_faults context process.body) (states_faults context process.body)
    (each-weaker (stimuli.IsBroken context process.body) IsNoLimit (body_faults context process.body)
    (λ fault breaks. stimulus-rule context breaks.stimulus fault breaks.broken)
    (stimulus_laws.listed-broken context process.body))
    (each-weaker (states.IsBroken context process.body) IsNoLimit (states_faults context process.body)
    (state-rule context process.body) (state_laws.listed-broken context process.body)))
    (each-both IsNoLimit (bodies_faults others process) (ends_faults process ++ stay_faults (beginnings process) names)
    (each-of IsNoLimit (statement_faults others) (beginnings process) (λ beginning among.
    each-weaker (nodes.IsBroken others beginning.transition) IsNoLimit (statement_faults others beginning)
    (transition-rule others beginning.transition) (node_laws.listed-broken others beginning.transition)))
    (each-both IsNoLimit (ends_faults process) (stay_faults (beginnings process) names)
    (each-weaker (IsEndless process) IsNoLimit (ends_faults process) (endless-rule process) (listed-endless process))
    (each-of IsNoLimit stay_fault (met_from (beginnings process) names) (λ terminator among. stay-rule terminator))))
