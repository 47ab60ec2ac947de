-- What is erased twice is erased.
use Rattle.std.proofs.Common.{◌≡◌, refl, ap, ℕ, Bool, true, false, if◌then◌else◌, Some, None, option_map, List, [], ◌∷◌, map, codes}
use Rattle.std.specs.Str.{bytes_eq}
use Rattle.sdl_tree.specs.Erased.{start, plain, erased_name, erased_sort, erased_number, erased_expr, erased_exprs, erased_links, erased_applied, erased_assignment, erased_destination, erased_clause, erased_answer, erased_next_state, erased_terminator, erased_ending, erased_transition, erased_actions, erased_action, erased_parts, erased_otherwise, erased_start, erased_item, erased_input, erased_inputs, erased_saved, erased_condition, erased_stimulus, erased_states, erased_body_part, erased_signal, erased_signal_list, erased_synonym, erased_synonyms, erased_parameters, erased_fpar, erased_variables, erased_timer, erased_timers, erased_signal_set, erased_local, erased_bound, erased_counts, erased_process, erased_end, erased_path, erased_channel, erased_connection, erased_definition, erased_block_part, erased_block, erased_system_definition}
use Rattle.sdl_tree.specs.Laws.{ErasedOnce}
use Rattle.sdl_tree.specs.Spells.Parts.{sort_of}
use Rattle.sdl_tree.specs.Tree.{Expr, Numeral, Named, Keyword, Active, Paren, Unary, Chain, Exprs, NoExpr, AndExpr, Links, NoLink, AndLink, Value, Range, Compared, Same, To, Next, Stop, Join, Transition, Steps, Actions, NoAction, AndAction, Action, Task, Output, Set, Reset, Create, Decision, Parts, NoPart, AndPart, Otherwise, NoElse, Else, SignalItem, ListItem, InputList, InputAll, SaveList, SaveAll, InputPart, PriorityInput, SavePart, ContinuousSignal, StateList, StateAll, StatePart, FreeAction, LocalSignals, LocalSignalList, LocalSynonyms, LocalSignalSet, Variables, Timers, Env, Agent, Signals, SignalList, Synonyms, Channel, Process, InBlock, Connect, InSystem, Block}

abbrev Again : {A : Type 0} → (A → A) → Type 0
Again {A = A} f = (x : A) → f (f x) ≡ f x

map_again : {A : Type 0} (f : A → A) → Again f → Again (map f)
map_again f each [] = refl
map_again f each (x ∷ xs) = λ i. each x i ∷ map_again f each xs i

option_again : {A : Type 0} (f : A → A) → Again f → Again (option_map f)
option_again f each None = refl
option_again f each (Some x) = λ i. Some (each x i)

name_again : Again erased_name
name_again x = refl

names_again : Again (map erased_name)
names_again = map_again erased_name name_again

sort_of_again : (x : List ℕ) → sort_of (sort_of x) ≡ sort_of x
sort_of_again x = of_test (bytes_eq x (codes "PId")) refl
  where
    of_test : (b : Bool) → bytes_eq x (codes "PId") ≡ b → sort_of (if b then codes "Pid" else x) ≡ (if b then codes "Pid" else x)
    of_test true e = refl
    of_test false e = ap (λ b. if b then codes "Pid" else x) e

sort_again : Again erased_sort
sort_again x = λ i. record { text = sort_of_again x.text i; place = start }

sorts_again : Again (map erased_sort)
sorts_again = map_again erased_sort sort_again

mutual
  expr_again : (e : Expr) → erased_expr (erased_expr e) ≡ erased_expr e
  expr_again (Numeral n) = refl
  expr_again (Named x) = refl
  expr_again (Keyword v w) = refl
  expr_again (Active w x es) = λ i. Active plain (erased_name x) (exprs_again es i)
  expr_again (Paren w e) = λ i. Paren plain (expr_again e i)
  expr_again (Unary o w e) = λ i. Unary o plain (expr_again e i)
  expr_again (Chain e ls) = λ i. Chain (expr_again e i) (links_again ls i)

  exprs_again : (es : Exprs) → erased_exprs (erased_exprs es) ≡ erased_exprs es
  exprs_again NoExpr = refl
  exprs_again (AndExpr e es) = λ i. AndExpr (expr_again e i) (exprs_again es i)

  links_again : (ls : Links) → erased_links (erased_links ls) ≡ erased_links ls
  links_again NoLink = refl
  links_again (AndLink o w e ls) = λ i. AndLink o plain (expr_again e i) (links_again ls i)

value_again : Again (option_map erased_expr)
value_again = option_again erased_expr expr_again

applied_again : Again erased_applied
applied_again a = λ i. record { name = erased_name a.name; values = map_again erased_expr expr_again a.values i }

assignment_again : Again erased_assignment
assignment_again a = λ i. record { variable = erased_name a.variable; value = expr_again a.value i }

destination_again : Again erased_destination
destination_again d = λ i. record { word = plain; value = expr_again d.value i }

clause_again : Again erased_clause
clause_again c = λ i. record { time = value_again c.time i; timer = applied_again c.timer i }

answer_again : Again erased_answer
answer_again (Value e) = λ i. Value (expr_again e i)
answer_again (Range e f) = λ i. Range (expr_again e i) (expr_again f i)
answer_again (Compared o w e) = λ i. Compared o plain (expr_again e i)

next_state_again : Again erased_next_state
next_state_again (Same w) = refl
next_state_again (To x) = refl

terminator_again : Again erased_terminator
terminator_again (Next w state) = λ i. Next plain (next_state_again state i)
terminator_again (Stop w) = refl
terminator_again (Join w label) = refl

label_again : Again (option_map erased_name)
label_again = option_again erased_name name_again

ending_again : Again erased_ending
ending_again e = λ i. record { label = label_again e.label i; terminator = terminator_again e.terminator i }

mutual
  transition_again : (t : Transition) → erased_transition (erased_transition t) ≡ erased_transition t
  transition_again (Steps actions ending) = λ i. Steps (actions_again actions i) (option_again erased_ending ending_again ending i)

  actions_again : (actions : Actions) → erased_actions (erased_actions actions) ≡ erased_actions actions
  actions_again NoAction = refl
  actions_again (AndAction label action rest) = λ i. AndAction (label_again label i) (action_again action i) (actions_again rest i)

  action_again : (a : Action) → erased_action (erased_action a) ≡ erased_action a
  action_again (Task w assignments) = λ i. Task plain (map_again erased_assignment assignment_again assignments i)
  action_again (Output w outputs destination) =
      λ i. Output plain (map_again erased_applied applied_again outputs i) (option_again erased_destination destination_again destination i)
  action_again (Set w clauses) = λ i. Set plain (map_again erased_clause clause_again clauses i)
  action_again (Reset w groups) = λ i. Reset plain (map_again (map erased_applied) (map_again erased_applied applied_again) groups i)
  action_again (Create w process) = λ i. Create plain (applied_again process i)
  action_again (Decision w question parts otherwise) =
      λ i. Decision plain (expr_again question i) (parts_again parts i) (otherwise_again otherwise i)

  parts_again : (ps : Parts) → erased_parts (erased_parts ps) ≡ erased_parts ps
  parts_again NoPart = refl
  parts_again (AndPart answers transition rest) =
      λ i. AndPart (map_again erased_answer answer_again answers i) (transition_again transition i) (parts_again rest i)

  otherwise_again : (o : Otherwise) → erased_otherwise (erased_otherwise o) ≡ erased_otherwise o
  otherwise_again NoElse = refl
  otherwise_again (Else transition) = λ i. Else (transition_again transition i)

start_again : Again erased_start
start_again s = λ i. record { word = plain; transition = transition_again s.transition i }

item_again : Again erased_item
item_again (SignalItem x) = refl
item_again (ListItem x) = refl

items_again : Again (map erased_item)
items_again = map_again erased_item item_again

input_again : Again erased_input
input_again x = λ i. record { signal = erased_name x.signal; variables = map_again (option_map erased_name) label_again x.variables i }

inputs_again : Again erased_inputs
inputs_again (InputList inputs) = λ i. InputList (map_again erased_input input_again inputs i)
inputs_again (InputAll asterisk) = refl

saved_again : Again erased_saved
saved_again (SaveList items) = λ i. SaveList (items_again items i)
saved_again (SaveAll asterisk) = refl

condition_again : Again erased_condition
condition_again c = λ i. record { word = plain; condition = expr_again c.condition i }

stimulus_again : Again erased_stimulus
stimulus_again (InputPart w inputs condition transition) =
    λ i. InputPart plain (inputs_again inputs i) (option_again erased_condition condition_again condition i) (transition_again transition i)
stimulus_again (PriorityInput w inputs transition) =
    λ i. PriorityInput plain (map_again erased_input input_again inputs i) (transition_again transition i)
stimulus_again (SavePart w saved) = λ i. SavePart plain (saved_again saved i)
stimulus_again (ContinuousSignal w condition priority transition) =
    λ i. ContinuousSignal plain (expr_again condition i) (option_again erased_number (λ n. refl) priority i) (transition_again transition i)

states_again : Again erased_states
states_again (StateList names) = λ i. StateList (names_again names i)
states_again (StateAll asterisk except) = λ i. StateAll plain (names_again except i)

body_part_again : Again erased_body_part
body_part_again (StatePart states stimuli) = λ i. StatePart (states_again states i) (map_again erased_stimulus stimulus_again stimuli i)
body_part_again (FreeAction w label transition) = λ i. FreeAction plain (erased_name label) (transition_again transition i)

signal_again : Again erased_signal
signal_again s = λ i. record { name = erased_name s.name; sorts = sorts_again s.sorts i }

signal_list_again : Again erased_signal_list
signal_list_again l = λ i. record { word = plain; name = erased_name l.name; items = items_again l.items i }

synonym_again : Again erased_synonym
synonym_again s = λ i. record { name = erased_name s.name; sort = sort_again s.sort i; value = expr_again s.value i }

synonyms_again : Again erased_synonyms
synonyms_again s = λ i. record { word = plain; synonyms = map_again erased_synonym synonym_again s.synonyms i }

parameters_again : Again erased_parameters
parameters_again g = λ i. record { names = names_again g.names i; sort = sort_again g.sort i }

fpar_again : Again erased_fpar
fpar_again f = λ i. record { word = plain; groups = map_again erased_parameters parameters_again f.groups i }

variables_again : Again erased_variables
variables_again g = λ i. record { names = names_again g.names i; sort = sort_again g.sort i; initial = value_again g.initial i }

timer_again : Again erased_timer
timer_again t = λ i. record { name = erased_name t.name; sorts = sorts_again t.sorts i; duration = value_again t.duration i }

timers_again : Again erased_timers
timers_again t = λ i. record { word = plain; timers = map_again erased_timer timer_again t.timers i }

signal_set_again : Again erased_signal_set
signal_set_again s = λ i. record { word = plain; items = items_again s.items i }

local_again : Again erased_local
local_again (LocalSignals signals) = λ i. LocalSignals (map_again erased_signal signal_again signals i)
local_again (LocalSignalList list) = λ i. LocalSignalList (signal_list_again list i)
local_again (LocalSynonyms synonyms) = λ i. LocalSynonyms (synonyms_again synonyms i)
local_again (LocalSignalSet signals) = λ i. LocalSignalSet (signal_set_again signals i)
local_again (Variables groups) = λ i. Variables (map_again erased_variables variables_again groups i)
local_again (Timers timers) = λ i. Timers (timers_again timers i)

bound_again : Again erased_bound
bound_again b = λ i. record { maximum = value_again b.maximum i }

counts_again : Again erased_counts
counts_again c = λ i. record { parenthesis = plain; initial = value_again c.initial i; bound = option_again erased_bound bound_again c.bound i }

process_again : Again erased_process
process_again p = λ i. record {
  word = plain;
  name = erased_name p.name;
  counts = option_again erased_counts counts_again p.counts i;
  parameters = option_again erased_fpar fpar_again p.parameters i;
  definitions = map_again erased_local local_again p.definitions i;
  start = start_again p.start i;
  body = map_again erased_body_part body_part_again p.body i;
}

end_again : Again erased_end
end_again (Env w) = refl
end_again (Agent x) = refl

path_again : Again erased_path
path_again p = λ i. record { from = end_again p.from i; to = end_again p.to i; signals = items_again p.signals i }

channel_again : Again erased_channel
channel_again c = λ i. record {
  word = plain;
  name = erased_name c.name;
  is_nodelay = c.is_nodelay;
  first = path_again c.first i;
  second = option_again erased_path path_again c.second i;
}

connection_again : Again erased_connection
connection_again c = λ i. record { word = plain; outer = names_again c.outer i; inner = names_again c.inner i }

definition_again : Again erased_definition
definition_again (Signals signals) = λ i. Signals (map_again erased_signal signal_again signals i)
definition_again (SignalList list) = λ i. SignalList (signal_list_again list i)
definition_again (Synonyms synonyms) = λ i. Synonyms (synonyms_again synonyms i)
definition_again (Channel channel) = λ i. Channel (channel_again channel i)
definition_again (Process process) = λ i. Process (process_again process i)

block_part_again : Again erased_block_part
block_part_again (InBlock definition) = λ i. InBlock (definition_again definition i)
block_part_again (Connect connection) = λ i. Connect (connection_again connection i)

block_again : Again erased_block
block_again b = λ i. record { word = plain; name = erased_name b.name; definitions = map_again erased_block_part block_part_again b.definitions i }

system_definition_again : Again erased_system_definition
system_definition_again (InSystem definition) = λ i. InSystem (definition_again definition i)
system_definition_again (Block block) = λ i. Block (block_again block i)

pub erased_once : ErasedOnce
erased_once t = λ i. record { name = erased_name t.name; definitions = map_again erased_system_definition system_definition_again t.definitions i }
