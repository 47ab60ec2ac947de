-- A tree but for the places and the spellings of its text: each word in lower case, each number by its value, the sort `PId` as
-- `Pid`, and all at the place where a text begins.
use Rattle.std.specs.Prelude.{map, option_map}
use Rattle.std.specs.Fmt.{signed_decimal}
use Rattle.sdl_lex.specs.declared.place.Place.{Place}
use Rattle.sdl_tree.specs.declared.mark.Case.TheVariants.{Lower}
use Rattle.sdl_tree.specs.declared.name.Spelling.{Spelling}
use Rattle.sdl_tree.specs.Spells.Parts.{sort_of}
use Rattle.sdl_tree.specs.Tree.{Number, Expr, Numeral, Named, Keyword, Active, Paren, Unary, Chain, Exprs, NoExpr, AndExpr, Links, NoLink, AndLink, Applied, Assignment, Destination, SetClause, Answer, Value, Range, Compared, NextState, Same, To, Terminator, Next, Stop, Join, Ending, Transition, Steps, Actions, NoAction, AndAction, Action, Task, Output, Set, Reset, Create, Decision, Parts, NoPart, AndPart, Otherwise, NoElse, Else, Start, SignalListItem, SignalItem, ListItem, Input, Inputs, InputList, InputAll, Saved, SaveList, SaveAll, Condition, Stimulus, InputPart, PriorityInput, SavePart, ContinuousSignal, States, StateList, StateAll, BodyPart, StatePart, FreeAction, SignalDefinition, SignalListDefinition, SynonymDefinition, SynonymDefinitions, ParameterGroup, FormalParameters, VariableGroup, TimerDefinition, TimerDefinitions, SignalSet, LocalDefinition, LocalSignals, LocalSignalList, LocalSynonyms, LocalSignalSet, Variables, Timers, Bound, Counts, ProcessDefinition, ChannelEnd, Env, Agent, ChannelPath, ChannelDefinition, Connection, Definition, Signals, SignalList, Synonyms, Channel, Process, BlockPart, InBlock, Connect, BlockDefinition, SystemDefinition, InSystem, Block, Tree}
use Rattle.sdl_tree.specs.Words.{Spot}

-- where each text begins
abbrev pub start : Place
start = record { line = 1; column = 1 }

-- a word in lower case
abbrev pub plain : Spelling
plain = record { case = Lower; place = start }

abbrev pub erased_word : Spelling → Spelling
erased_word s = plain

abbrev pub erased_name : Spot → Spot
erased_name x = record { text = x.text; place = start }

abbrev pub erased_sort : Spot → Spot
erased_sort x = record { text = sort_of x.text; place = start }

abbrev pub erased_number : Number → Number
erased_number n = record { value = n.value; digits = record { text = signed_decimal n.value; place = start } }

-- ---- expressions

abbrev mutual
  pub erased_expr : Expr → Expr
  erased_expr (Numeral n) = Numeral (erased_number n)
  erased_expr (Named x) = Named (erased_name x)
  erased_expr (Keyword v w) = Keyword v (erased_word w)
  erased_expr (Active w timer values) = Active (erased_word w) (erased_name timer) (erased_exprs values)
  erased_expr (Paren w e) = Paren (erased_word w) (erased_expr e)
  erased_expr (Unary o w e) = Unary o (erased_word w) (erased_expr e)
  erased_expr (Chain e links) = Chain (erased_expr e) (erased_links links)

  pub erased_exprs : Exprs → Exprs
  erased_exprs NoExpr = NoExpr
  erased_exprs (AndExpr e es) = AndExpr (erased_expr e) (erased_exprs es)

  pub erased_links : Links → Links
  erased_links NoLink = NoLink
  erased_links (AndLink o w e links) = AndLink o (erased_word w) (erased_expr e) (erased_links links)

abbrev pub erased_applied : Applied → Applied
erased_applied a = record { name = erased_name a.name; values = map erased_expr a.values }

-- ---- transitions

abbrev pub erased_assignment : Assignment → Assignment
erased_assignment a = record { variable = erased_name a.variable; value = erased_expr a.value }

abbrev pub erased_destination : Destination → Destination
erased_destination d = record { word = erased_word d.word; value = erased_expr d.value }

abbrev pub erased_clause : SetClause → SetClause
erased_clause c = record { time = option_map erased_expr c.time; timer = erased_applied c.timer }

abbrev pub erased_answer : Answer → Answer
erased_answer (Value e) = Value (erased_expr e)
erased_answer (Range e f) = Range (erased_expr e) (erased_expr f)
erased_answer (Compared o w e) = Compared o (erased_word w) (erased_expr e)

abbrev pub erased_next_state : NextState → NextState
erased_next_state (Same w) = Same (erased_word w)
erased_next_state (To x) = To (erased_name x)

abbrev pub erased_terminator : Terminator → Terminator
erased_terminator (Next w state) = Next (erased_word w) (erased_next_state state)
erased_terminator (Stop w) = Stop (erased_word w)
erased_terminator (Join w label) = Join (erased_word w) (erased_name label)

abbrev pub erased_ending : Ending → Ending
erased_ending e = record { label = option_map erased_name e.label; terminator = erased_terminator e.terminator }

abbrev mutual
  pub erased_transition : Transition → Transition
  erased_transition (Steps actions ending) = Steps (erased_actions actions) (option_map erased_ending ending)

  pub erased_actions : Actions → Actions
  erased_actions NoAction = NoAction
  erased_actions (AndAction label action rest) = AndAction (option_map erased_name label) (erased_action action) (erased_actions rest)

  pub erased_action : Action → Action
  erased_action (Task w assignments) = Task (erased_word w) (map erased_assignment assignments)
  erased_action (Output w outputs destination) = Output (erased_word w) (map erased_applied outputs) (option_map erased_destination destination)
  erased_action (Set w clauses) = Set (erased_word w) (map erased_clause clauses)
  erased_action (Reset w groups) = Reset (erased_word w) (map (map erased_applied) groups)
  erased_action (Create w process) = Create (erased_word w) (erased_applied process)
  erased_action (Decision w question parts otherwise) =
      Decision (erased_word w) (erased_expr question) (erased_parts parts) (erased_otherwise otherwise)

  pub erased_parts : Parts → Parts
  erased_parts NoPart = NoPart
  erased_parts (AndPart answers transition rest) = AndPart (map erased_answer answers) (erased_transition transition) (erased_parts rest)

  pub erased_otherwise : Otherwise → Otherwise
  erased_otherwise NoElse = NoElse
  erased_otherwise (Else transition) = Else (erased_transition transition)

abbrev pub erased_start : Start → Start
erased_start s = record { word = erased_word s.word; transition = erased_transition s.transition }

-- ---- states

abbrev pub erased_item : SignalListItem → SignalListItem
erased_item (SignalItem x) = SignalItem (erased_name x)
erased_item (ListItem x) = ListItem (erased_name x)

abbrev pub erased_input : Input → Input
erased_input i = record { signal = erased_name i.signal; variables = map (option_map erased_name) i.variables }

abbrev pub erased_inputs : Inputs → Inputs
erased_inputs (InputList inputs) = InputList (map erased_input inputs)
erased_inputs (InputAll asterisk) = InputAll (erased_word asterisk)

abbrev pub erased_saved : Saved → Saved
erased_saved (SaveList items) = SaveList (map erased_item items)
erased_saved (SaveAll asterisk) = SaveAll (erased_word asterisk)

abbrev pub erased_condition : Condition → Condition
erased_condition c = record { word = erased_word c.word; condition = erased_expr c.condition }

abbrev pub erased_stimulus : Stimulus → Stimulus
erased_stimulus (InputPart w inputs condition transition) =
    InputPart (erased_word w) (erased_inputs inputs) (option_map erased_condition condition) (erased_transition transition)
erased_stimulus (PriorityInput w inputs transition) = PriorityInput (erased_word w) (map erased_input inputs) (erased_transition transition)
erased_stimulus (SavePart w saved) = SavePart (erased_word w) (erased_saved saved)
erased_stimulus (ContinuousSignal w condition priority transition) =
    ContinuousSignal (erased_word w) (erased_expr condition) (option_map erased_number priority) (erased_transition transition)

abbrev pub erased_states : States → States
erased_states (StateList names) = StateList (map erased_name names)
erased_states (StateAll asterisk except) = StateAll (erased_word asterisk) (map erased_name except)

abbrev pub erased_body_part : BodyPart → BodyPart
erased_body_part (StatePart states stimuli) = StatePart (erased_states states) (map erased_stimulus stimuli)
erased_body_part (FreeAction w label transition) = FreeAction (erased_word w) (erased_name label) (erased_transition transition)

-- ---- definitions

abbrev pub erased_signal : SignalDefinition → SignalDefinition
erased_signal s = record { name = erased_name s.name; sorts = map erased_sort s.sorts }

abbrev pub erased_signal_list : SignalListDefinition → SignalListDefinition
erased_signal_list l = record { word = erased_word l.word; name = erased_name l.name; items = map erased_item l.items }

abbrev pub erased_synonym : SynonymDefinition → SynonymDefinition
erased_synonym s = record { name = erased_name s.name; sort = erased_sort s.sort; value = erased_expr s.value }

abbrev pub erased_synonyms : SynonymDefinitions → SynonymDefinitions
erased_synonyms s = record { word = erased_word s.word; synonyms = map erased_synonym s.synonyms }

abbrev pub erased_parameters : ParameterGroup → ParameterGroup
erased_parameters g = record { names = map erased_name g.names; sort = erased_sort g.sort }

abbrev pub erased_fpar : FormalParameters → FormalParameters
erased_fpar f = record { word = erased_word f.word; groups = map erased_parameters f.groups }

abbrev pub erased_variables : VariableGroup → VariableGroup
erased_variables g = record { names = map erased_name g.names; sort = erased_sort g.sort; initial = option_map erased_expr g.initial }

abbrev pub erased_timer : TimerDefinition → TimerDefinition
erased_timer t = record { name = erased_name t.name; sorts = map erased_sort t.sorts; duration = option_map erased_expr t.duration }

abbrev pub erased_timers : TimerDefinitions → TimerDefinitions
erased_timers t = record { word = erased_word t.word; timers = map erased_timer t.timers }

abbrev pub erased_signal_set : SignalSet → SignalSet
erased_signal_set s = record { word = erased_word s.word; items = map erased_item s.items }

abbrev pub erased_local : LocalDefinition → LocalDefinition
erased_local (LocalSignals signals) = LocalSignals (map erased_signal signals)
erased_local (LocalSignalList list) = LocalSignalList (erased_signal_list list)
erased_local (LocalSynonyms synonyms) = LocalSynonyms (erased_synonyms synonyms)
erased_local (LocalSignalSet signals) = LocalSignalSet (erased_signal_set signals)
erased_local (Variables groups) = Variables (map erased_variables groups)
erased_local (Timers timers) = Timers (erased_timers timers)

abbrev pub erased_bound : Bound → Bound
erased_bound b = record { maximum = option_map erased_expr b.maximum }

abbrev pub erased_counts : Counts → Counts
erased_counts c = record {
  parenthesis = erased_word c.parenthesis;
  initial = option_map erased_expr c.initial;
  bound = option_map erased_bound c.bound;
}

abbrev pub erased_process : ProcessDefinition → ProcessDefinition
erased_process p = record {
  word = erased_word p.word;
  name = erased_name p.name;
  counts = option_map erased_counts p.counts;
  parameters = option_map erased_fpar p.parameters;
  definitions = map erased_local p.definitions;
  start = erased_start p.start;
  body = map erased_body_part p.body;
}

abbrev pub erased_end : ChannelEnd → ChannelEnd
erased_end (Env w) = Env (erased_word w)
erased_end (Agent x) = Agent (erased_name x)

abbrev pub erased_path : ChannelPath → ChannelPath
erased_path p = record { from = erased_end p.from; to = erased_end p.to; signals = map erased_item p.signals }

abbrev pub erased_channel : ChannelDefinition → ChannelDefinition
erased_channel c = record {
  word = erased_word c.word;
  name = erased_name c.name;
  is_nodelay = c.is_nodelay;
  first = erased_path c.first;
  second = option_map erased_path c.second;
}

abbrev pub erased_connection : Connection → Connection
erased_connection c = record { word = erased_word c.word; outer = map erased_name c.outer; inner = map erased_name c.inner }

abbrev pub erased_definition : Definition → Definition
erased_definition (Signals signals) = Signals (map erased_signal signals)
erased_definition (SignalList list) = SignalList (erased_signal_list list)
erased_definition (Synonyms synonyms) = Synonyms (erased_synonyms synonyms)
erased_definition (Channel channel) = Channel (erased_channel channel)
erased_definition (Process process) = Process (erased_process process)

abbrev pub erased_block_part : BlockPart → BlockPart
erased_block_part (InBlock definition) = InBlock (erased_definition definition)
erased_block_part (Connect connection) = Connect (erased_connection connection)

abbrev pub erased_block : BlockDefinition → BlockDefinition
erased_block b = record { word = erased_word b.word; name = erased_name b.name; definitions = map erased_block_part b.definitions }

abbrev pub erased_system_definition : SystemDefinition → SystemDefinition
erased_system_definition (InSystem definition) = InSystem (erased_definition definition)
erased_system_definition (Block block) = Block (erased_block block)

abbrev pub erased : Tree → Tree
erased t = record { name = erased_name t.name; definitions = map erased_system_definition t.definitions }
