-- The canonical words of a tree, and the canonical text, which is that of the erased tree. Each function gives the words of a
-- node before the words `j` that come after it. Marks that the tree drops are in lower case, where a text begins.
use Rattle.std.specs.Prelude.{ℕ, Bool, true, false, if◌then◌else◌, Option, Some, None, List, [], ◌∷◌, ◌++◌, codes}
use Rattle.std.specs.Str.{bytes_eq}
use Rattle.sdl_tree.specs.declared.mark.Mark.{Mark}
use Rattle.sdl_tree.specs.declared.mark.Mark.TheVariants as mark
use Rattle.sdl_tree.specs.Erased.{plain, erased}
use Rattle.sdl_tree.specs.Spells.Expressions.{value_mark, unary_mark, operator_mark}
use Rattle.sdl_tree.specs.Tree.{Number, Expr, Numeral, Named, Keyword, Active, Paren, Unary, Chain, Exprs, NoExpr, AndExpr, Links, NoLink, AndLink, Applied, Assignment, Destination, SetClause, Answer, Value, Range, Compared, NextState, Same, To, Terminator, Next, Stop, Join, Ending, Transition, Steps, Actions, NoAction, AndAction, Action, Task, Output, Set, Reset, Create, Decision, Parts, NoPart, AndPart, Otherwise, NoElse, Else, Start, SignalListItem, SignalItem, ListItem, Input, Inputs, InputList, InputAll, Saved, SaveList, SaveAll, Condition, Stimulus, InputPart, PriorityInput, SavePart, ContinuousSignal, States, StateList, StateAll, BodyPart, StatePart, FreeAction, SignalDefinition, SignalListDefinition, SynonymDefinition, SynonymDefinitions, ParameterGroup, FormalParameters, VariableGroup, TimerDefinition, TimerDefinitions, SignalSet, LocalDefinition, LocalSignals, LocalSignalList, LocalSynonyms, LocalSignalSet, Variables, Timers, Bound, Counts, ProcessDefinition, ChannelEnd, Env, Agent, ChannelPath, ChannelDefinition, Connection, Definition, Signals, SignalList, Synonyms, Channel, Process, BlockPart, InBlock, Connect, BlockDefinition, SystemDefinition, InSystem, Block, Tree}
use Rattle.sdl_tree.specs.Words.{Spot, Word, Words, Fixed, word_text}
use Rattle.sdl_tree.specs.Words as word

-- a mark that the tree drops
abbrev pub fixed : Mark → Word
fixed m = Fixed m plain

-- ---- lists and parts that may be left out

abbrev pub separated : {A : Type 0} → (A → Words → Words) → List A → Words → Words
separated words [] j = j
separated words (x ∷ []) j = words x j
separated words (x ∷ y ∷ xs) j = words x (fixed mark.Comma ∷ separated words (y ∷ xs) j)

abbrev pub repeated : {A : Type 0} → (A → Words → Words) → List A → Words → Words
repeated words [] j = j
repeated words (x ∷ xs) j = words x (repeated words xs j)

abbrev pub optional : {A : Type 0} → (A → Words → Words) → Option A → Words → Words
optional words None j = j
optional words (Some x) j = words x j

abbrev pub in_parentheses : {A : Type 0} → (A → Words → Words) → List A → Words → Words
in_parentheses words [] j = j
in_parentheses words (x ∷ xs) j = fixed mark.Open ∷ separated words (x ∷ xs) (fixed mark.Close ∷ j)

abbrev pub name_words : Spot → Words → Words
name_words x j = word.Name x ∷ j

abbrev pub number_words : Number → Words → Words
number_words n j = word.Number n.value n.digits ∷ j

abbrev pub end_words : Words → Words
end_words j = fixed mark.Semicolon ∷ j

-- ---- expressions

abbrev mutual
  pub expr_words : Expr → Words → Words
  expr_words (Numeral n) j = number_words n j
  expr_words (Named x) j = word.Name x ∷ j
  expr_words (Keyword v w) j = Fixed (value_mark v) w ∷ j
  expr_words (Active w timer values) j =
      Fixed mark.Active w ∷ fixed mark.Open ∷ word.Name timer ∷ values_words values (fixed mark.Close ∷ j)
  expr_words (Paren w e) j = Fixed mark.Open w ∷ expr_words e (fixed mark.Close ∷ j)
  expr_words (Unary o w e) j = Fixed (unary_mark o) w ∷ expr_words e j
  expr_words (Chain e links) j = expr_words e (links_words links j)

  pub links_words : Links → Words → Words
  links_words NoLink j = j
  links_words (AndLink o w e links) j = Fixed (operator_mark o) w ∷ expr_words e (links_words links j)

  -- the values of a timer
  pub values_words : Exprs → Words → Words
  values_words NoExpr j = j
  values_words (AndExpr e es) j = fixed mark.Open ∷ expr_words e (more_values_words es (fixed mark.Close ∷ j))

  pub more_values_words : Exprs → Words → Words
  more_values_words NoExpr j = j
  more_values_words (AndExpr e es) j = fixed mark.Comma ∷ expr_words e (more_values_words es j)

abbrev pub applied_words : Applied → Words → Words
applied_words a j = word.Name a.name ∷ in_parentheses expr_words a.values j

-- ---- transitions

abbrev pub assignment_words : Assignment → Words → Words
assignment_words a j = word.Name a.variable ∷ fixed mark.Assign ∷ expr_words a.value j

abbrev pub destination_words : Destination → Words → Words
destination_words d j = Fixed mark.To d.word ∷ expr_words d.value j

abbrev pub time_words : Expr → Words → Words
time_words e j = expr_words e (fixed mark.Comma ∷ j)

abbrev pub clause_words : SetClause → Words → Words
clause_words c j = fixed mark.Open ∷ optional time_words c.time (applied_words c.timer (fixed mark.Close ∷ j))

abbrev pub keys_words : List Applied → Words → Words
keys_words timers j = fixed mark.Open ∷ separated applied_words timers (fixed mark.Close ∷ j)

abbrev pub answer_words : Answer → Words → Words
answer_words (Value e) j = expr_words e j
answer_words (Range e f) j = expr_words e (fixed mark.Colon ∷ expr_words f j)
answer_words (Compared o w e) j = Fixed (operator_mark o) w ∷ expr_words e j

abbrev pub label_words : Spot → Words → Words
label_words x j = word.Name x ∷ fixed mark.Colon ∷ j

abbrev pub next_state_words : NextState → Words → Words
next_state_words (Same w) j = Fixed mark.Minus w ∷ j
next_state_words (To x) j = word.Name x ∷ j

abbrev pub terminator_words : Terminator → Words → Words
terminator_words (Next w state) j = Fixed mark.NextState w ∷ next_state_words state (end_words j)
terminator_words (Stop w) j = Fixed mark.Stop w ∷ end_words j
terminator_words (Join w label) j = Fixed mark.Join w ∷ word.Name label ∷ end_words j

abbrev pub ending_words : Ending → Words → Words
ending_words e j = optional label_words e.label (terminator_words e.terminator j)

abbrev mutual
  pub transition_words : Transition → Words → Words
  transition_words (Steps actions ending) j = actions_words actions (optional ending_words ending j)

  pub actions_words : Actions → Words → Words
  actions_words NoAction j = j
  actions_words (AndAction label action rest) j = optional label_words label (action_words action (actions_words rest j))

  pub action_words : Action → Words → Words
  action_words (Task w assignments) j = Fixed mark.Task w ∷ separated assignment_words assignments (end_words j)
  action_words (Output w outputs destination) j =
      Fixed mark.Output w ∷ separated applied_words outputs (optional destination_words destination (end_words j))
  action_words (Set w clauses) j = Fixed mark.Set w ∷ separated clause_words clauses (end_words j)
  action_words (Reset w groups) j = Fixed mark.Reset w ∷ separated keys_words groups (end_words j)
  action_words (Create w process) j = Fixed mark.Create w ∷ applied_words process (end_words j)
  action_words (Decision w question parts otherwise) j = Fixed mark.Decision w ∷ expr_words question (end_words
      (parts_words parts (otherwise_words otherwise (fixed mark.EndDecision ∷ end_words j))))

  pub parts_words : Parts → Words → Words
  parts_words NoPart j = j
  parts_words (AndPart answers transition rest) j = fixed mark.Open ∷ separated answer_words answers
      (fixed mark.Close ∷ fixed mark.Colon ∷ transition_words transition (parts_words rest j))

  pub otherwise_words : Otherwise → Words → Words
  otherwise_words NoElse j = j
  otherwise_words (Else transition) j = fixed mark.Else ∷ fixed mark.Colon ∷ transition_words transition j

-- ---- states

abbrev pub start_words : Start → Words → Words
start_words s j = Fixed mark.Start s.word ∷ end_words (transition_words s.transition j)

abbrev pub sig_words : SignalListItem → Words → Words
sig_words (SignalItem x) j = word.Name x ∷ j
sig_words (ListItem x) j = fixed mark.Open ∷ word.Name x ∷ fixed mark.Close ∷ j

abbrev pub in1_words : Input → Words → Words
in1_words input j = word.Name input.signal ∷ in_parentheses (optional name_words) input.variables j

abbrev pub ins_words : Inputs → Words → Words
ins_words (InputList inputs) j = separated in1_words inputs j
ins_words (InputAll asterisk) j = Fixed mark.Asterisk asterisk ∷ j

abbrev pub saved_words : Saved → Words → Words
saved_words (SaveList items) j = separated sig_words items j
saved_words (SaveAll asterisk) j = Fixed mark.Asterisk asterisk ∷ j

abbrev pub condition_words : Condition → Words → Words
condition_words c j = Fixed mark.Provided c.word ∷ expr_words c.condition (end_words j)

abbrev pub priority_words : Number → Words → Words
priority_words n j = fixed mark.Priority ∷ number_words n (end_words j)

abbrev pub stimulus_words : Stimulus → Words → Words
stimulus_words (InputPart w inputs condition transition) j =
    Fixed mark.Input w ∷ ins_words inputs (end_words (optional condition_words condition (transition_words transition j)))
stimulus_words (PriorityInput w inputs transition) j =
    Fixed mark.Priority w ∷ fixed mark.Input ∷ separated in1_words inputs (end_words (transition_words transition j))
stimulus_words (SavePart w saved) j = Fixed mark.Save w ∷ saved_words saved (end_words j)
stimulus_words (ContinuousSignal w condition priority transition) j =
    Fixed mark.Provided w ∷ expr_words condition (end_words (optional priority_words priority (transition_words transition j)))

abbrev pub states_words : States → Words → Words
states_words (StateList names) j = separated name_words names j
states_words (StateAll asterisk except) j = Fixed mark.Asterisk asterisk ∷ in_parentheses name_words except j

-- `endstate` and `endconnection` are always written, without a name.
abbrev pub body_part_words : BodyPart → Words → Words
body_part_words (StatePart states stimuli) j =
    fixed mark.State ∷ states_words states (end_words (repeated stimulus_words stimuli (fixed mark.EndState ∷ end_words j)))
body_part_words (FreeAction w label transition) j =
    Fixed mark.Connection w ∷ word.Name label ∷ fixed mark.Colon ∷ transition_words transition (fixed mark.EndConnection ∷ end_words j)

-- ---- definitions

abbrev pub signal_words : SignalDefinition → Words → Words
signal_words s j = word.Name s.name ∷ in_parentheses name_words s.sorts j

abbrev pub signals_words : List SignalDefinition → Words → Words
signals_words signals j = fixed mark.Signal ∷ separated signal_words signals (end_words j)

abbrev pub signal_list_words : SignalListDefinition → Words → Words
signal_list_words l j = Fixed mark.SignalList l.word ∷ word.Name l.name ∷ fixed mark.Equal ∷ separated sig_words l.items (end_words j)

abbrev pub synonym_words : SynonymDefinition → Words → Words
synonym_words s j = word.Name s.name ∷ word.Name s.sort ∷ fixed mark.Equal ∷ expr_words s.value j

abbrev pub synonyms_words : SynonymDefinitions → Words → Words
synonyms_words s j = Fixed mark.Synonym s.word ∷ separated synonym_words s.synonyms (end_words j)

abbrev pub point_words : ChannelEnd → Words → Words
point_words (Env w) j = Fixed mark.Env w ∷ j
point_words (Agent x) j = word.Name x ∷ j

abbrev pub path_words : ChannelPath → Words → Words
path_words p j = fixed mark.From ∷ point_words p.from (fixed mark.To ∷ point_words p.to
    (fixed mark.With ∷ separated sig_words p.signals (end_words j)))

abbrev pub no_delay_words : Bool → Words → Words
no_delay_words false j = j
no_delay_words true j = fixed mark.NoDelay ∷ j

abbrev pub channel_words : ChannelDefinition → Words → Words
channel_words c j = Fixed mark.Channel c.word ∷ word.Name c.name ∷ no_delay_words c.is_nodelay (path_words c.first
    (optional path_words c.second (fixed mark.EndChannel ∷ word.Name c.name ∷ end_words j)))

abbrev pub bound_words : Bound → Words → Words
bound_words b j = fixed mark.Comma ∷ optional expr_words b.maximum j

abbrev pub counts_words : Counts → Words → Words
counts_words c j = Fixed mark.Open c.parenthesis ∷ optional expr_words c.initial (optional bound_words c.bound (fixed mark.Close ∷ j))

abbrev pub parameters_words : ParameterGroup → Words → Words
parameters_words g j = separated name_words g.names (word.Name g.sort ∷ j)

abbrev pub fpar_words : FormalParameters → Words → Words
fpar_words f j = Fixed mark.Fpar f.word ∷ separated parameters_words f.groups (end_words j)

abbrev pub initial_words : Expr → Words → Words
initial_words e j = fixed mark.Assign ∷ expr_words e j

abbrev pub variables_words : VariableGroup → Words → Words
variables_words g j = separated name_words g.names (word.Name g.sort ∷ optional initial_words g.initial j)

abbrev pub timer_words : TimerDefinition → Words → Words
timer_words t j = word.Name t.name ∷ in_parentheses name_words t.sorts (optional initial_words t.duration j)

abbrev pub timers_words : TimerDefinitions → Words → Words
timers_words t j = Fixed mark.Timer t.word ∷ separated timer_words t.timers (end_words j)

abbrev pub signal_set_words : SignalSet → Words → Words
signal_set_words s j = Fixed mark.SignalSet s.word ∷ separated sig_words s.items (end_words j)

abbrev pub local_words : LocalDefinition → Words → Words
local_words (LocalSignals signals) j = signals_words signals j
local_words (LocalSignalList list) j = signal_list_words list j
local_words (LocalSynonyms synonyms) j = synonyms_words synonyms j
local_words (LocalSignalSet signals) j = signal_set_words signals j
local_words (Variables groups) j = fixed mark.Dcl ∷ separated variables_words groups (end_words j)
local_words (Timers timers) j = timers_words timers j

abbrev pub process_words : ProcessDefinition → Words → Words
process_words p j = Fixed mark.Process p.word ∷ word.Name p.name ∷ optional counts_words p.counts (end_words
    (optional fpar_words p.parameters (repeated local_words p.definitions (start_words p.start
    (repeated body_part_words p.body (fixed mark.EndProcess ∷ word.Name p.name ∷ end_words j))))))

abbrev pub connect_words : Connection → Words → Words
connect_words c j = Fixed mark.Connect c.word ∷ separated name_words c.outer (fixed mark.And ∷ separated name_words c.inner (end_words j))

abbrev pub definition_words : Definition → Words → Words
definition_words (Signals signals) j = signals_words signals j
definition_words (SignalList list) j = signal_list_words list j
definition_words (Synonyms synonyms) j = synonyms_words synonyms j
definition_words (Channel channel) j = channel_words channel j
definition_words (Process process) j = process_words process j

abbrev pub block_part_words : BlockPart → Words → Words
block_part_words (InBlock definition) j = definition_words definition j
block_part_words (Connect connection) j = connect_words connection j

abbrev pub block_words : BlockDefinition → Words → Words
block_words b j = Fixed mark.Block b.word ∷ word.Name b.name ∷ end_words
    (repeated block_part_words b.definitions (fixed mark.EndBlock ∷ word.Name b.name ∷ end_words j))

abbrev pub system_definition_words : SystemDefinition → Words → Words
system_definition_words (InSystem definition) j = definition_words definition j
system_definition_words (Block block) j = block_words block j

-- the canonical words of a tree
abbrev pub canonical : Tree → Words
canonical t = fixed mark.System ∷ word.Name t.name ∷ end_words
    (repeated system_definition_words t.definitions (fixed mark.EndSystem ∷ word.Name t.name ∷ end_words []))

-- ---- the text

-- A line ends after each `;`, and a blank stands after other words.
abbrev pub gap_after : Word → List ℕ
gap_after w = if bytes_eq (word_text w) (codes ";") then 10 ∷ [] else 32 ∷ []

abbrev pub text_of : Words → List ℕ
text_of [] = []
text_of (w ∷ words) = word_text w ++ (gap_after w ++ text_of words)

-- the canonical text of a tree
abbrev pub canonical_text : Tree → List ℕ
canonical_text t = text_of (canonical (erased t))
