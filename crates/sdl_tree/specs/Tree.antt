-- The trees of which the grammar speaks. They keep what the public tree does: how each name, number and sort is spelled
-- and where it stands, and the same of the words that a refusal can name. Operators of one looseness stand in one chain.
use Rattle.std.specs.Prelude.{ℤ, Bool, Option, Some, None, List, [], ◌∷◌}
use Rattle.sdl_tree.specs.declared.expressions.KeywordValue.{KeywordValue}
use Rattle.sdl_tree.specs.declared.expressions.UnaryOperator.{UnaryOperator}
use Rattle.sdl_tree.specs.declared.expressions.Operator.{Operator}
use Rattle.sdl_tree.specs.declared.name.Spelling.{Spelling}
use Rattle.sdl_tree.specs.Words.{Spot}

pub record Number : Type 0 where
  pub value : ℤ
  pub digits : Spot

-- ---- expressions

mutual
  pub data Expr : Type 0 where
    Numeral : (number : Number) → Expr
    Named : (name : Spot) → Expr
    Keyword : (value : KeywordValue) (word : Spelling) → Expr
    -- no values where no parentheses stand
    Active : (word : Spelling) (timer : Spot) (values : Exprs) → Expr
    Paren : (word : Spelling) (inner : Expr) → Expr
    Unary : (operator : UnaryOperator) (word : Spelling) (operand : Expr) → Expr
    Chain : (first : Expr) (rest : Links) → Expr

  pub data Exprs : Type 0 where
    NoExpr : Exprs
    AndExpr : (first : Expr) (rest : Exprs) → Exprs

  -- operators with the operands behind them
  pub data Links : Type 0 where
    NoLink : Links
    AndLink : (operator : Operator) (word : Spelling) (operand : Expr) (rest : Links) → Links

abbrev pub exprs_in : Exprs → List Expr
exprs_in NoExpr = []
exprs_in (AndExpr e es) = e ∷ exprs_in es

abbrev pub exprs_of : List Expr → Exprs
exprs_of [] = NoExpr
exprs_of (e ∷ es) = AndExpr e (exprs_of es)

pub record Link : Type 0 where
  pub operator : Operator
  pub word : Spelling
  pub operand : Expr

abbrev pub links_in : Links → List Link
links_in NoLink = []
links_in (AndLink o w e ls) = record { operator = o; word = w; operand = e } ∷ links_in ls

abbrev pub links_of : List Link → Links
links_of [] = NoLink
links_of (l ∷ ls) = AndLink l.operator l.word l.operand (links_of ls)

-- a name with the values in parentheses behind it; none where no parentheses stand
pub record Applied : Type 0 where
  pub name : Spot
  pub values : List Expr

-- ---- transitions

pub record Assignment : Type 0 where
  pub variable : Spot
  pub value : Expr

pub record Destination : Type 0 where
  pub word : Spelling
  pub value : Expr

pub record SetClause : Type 0 where
  pub time : Option Expr
  pub timer : Applied

pub data Answer : Type 0 where
  Value : (value : Expr) → Answer
  Range : (first last : Expr) → Answer
  Compared : (operator : Operator) (word : Spelling) (value : Expr) → Answer

-- the state that a transition leads to: `-` or another
pub data NextState : Type 0 where
  Same : (word : Spelling) → NextState
  To : (state : Spot) → NextState

pub data Terminator : Type 0 where
  Next : (word : Spelling) (state : NextState) → Terminator
  Stop : (word : Spelling) → Terminator
  Join : (word : Spelling) (label : Spot) → Terminator

-- a terminator with its label
pub record Ending : Type 0 where
  pub label : Option Spot
  pub terminator : Terminator

mutual
  pub data Transition : Type 0 where
    Steps : (actions : Actions) (ending : Option Ending) → Transition

  -- actions with their labels
  pub data Actions : Type 0 where
    NoAction : Actions
    AndAction : (label : Option Spot) (first : Action) (rest : Actions) → Actions

  pub data Action : Type 0 where
    Task : (word : Spelling) (assignments : List Assignment) → Action
    Output : (word : Spelling) (outputs : List Applied) (destination : Option Destination) → Action
    Set : (word : Spelling) (clauses : List SetClause) → Action
    Reset : (word : Spelling) (groups : List (List Applied)) → Action
    Create : (word : Spelling) (process : Applied) → Action
    Decision : (word : Spelling) (question : Expr) (parts : Parts) (otherwise : Otherwise) → Action

  -- the answers of a decision with their transitions
  pub data Parts : Type 0 where
    NoPart : Parts
    AndPart : (answers : List Answer) (transition : Transition) (rest : Parts) → Parts

  pub data Otherwise : Type 0 where
    NoElse : Otherwise
    Else : (transition : Transition) → Otherwise

pub record Statement : Type 0 where
  pub label : Option Spot
  pub action : Action

abbrev pub statements_in : Actions → List Statement
statements_in NoAction = []
statements_in (AndAction label action rest) = record { label = label; action = action } ∷ statements_in rest

abbrev pub actions_of : List Statement → Actions
actions_of [] = NoAction
actions_of (s ∷ statements) = AndAction s.label s.action (actions_of statements)

pub record Part : Type 0 where
  pub answers : List Answer
  pub transition : Transition

abbrev pub parts_in : Parts → List Part
parts_in NoPart = []
parts_in (AndPart answers transition rest) = record { answers = answers; transition = transition } ∷ parts_in rest

abbrev pub parts_of : List Part → Parts
parts_of [] = NoPart
parts_of (p ∷ parts) = AndPart p.answers p.transition (parts_of parts)

abbrev pub else_in : Otherwise → Option Transition
else_in NoElse = None
else_in (Else transition) = Some transition

abbrev pub else_of : Option Transition → Otherwise
else_of None = NoElse
else_of (Some transition) = Else transition

-- the start transition
pub record Start : Type 0 where
  pub word : Spelling
  pub transition : Transition

-- ---- states

-- a signal, or in parentheses a list of signals
pub data SignalListItem : Type 0 where
  SignalItem : (name : Spot) → SignalListItem
  ListItem : (name : Spot) → SignalListItem

-- a signal and the variables that take its values; no place where no parentheses stand
pub record Input : Type 0 where
  pub signal : Spot
  pub variables : List (Option Spot)

pub data Inputs : Type 0 where
  InputList : (inputs : List Input) → Inputs
  InputAll : (asterisk : Spelling) → Inputs

pub data Saved : Type 0 where
  SaveList : (items : List SignalListItem) → Saved
  SaveAll : (asterisk : Spelling) → Saved

pub record Condition : Type 0 where
  pub word : Spelling
  pub condition : Expr

pub data Stimulus : Type 0 where
  InputPart : (word : Spelling) (inputs : Inputs) (condition : Option Condition) (transition : Transition) → Stimulus
  PriorityInput : (word : Spelling) (inputs : List Input) (transition : Transition) → Stimulus
  SavePart : (word : Spelling) (saved : Saved) → Stimulus
  ContinuousSignal : (word : Spelling) (condition : Expr) (priority : Option Number) (transition : Transition) → Stimulus

pub data States : Type 0 where
  StateList : (names : List Spot) → States
  StateAll : (asterisk : Spelling) (except : List Spot) → States

pub data BodyPart : Type 0 where
  StatePart : (states : States) (stimuli : List Stimulus) → BodyPart
  FreeAction : (word : Spelling) (label : Spot) (transition : Transition) → BodyPart

-- ---- definitions

pub record SignalDefinition : Type 0 where
  pub name : Spot
  pub sorts : List Spot

pub record SignalListDefinition : Type 0 where
  pub word : Spelling
  pub name : Spot
  pub items : List SignalListItem

pub record SynonymDefinition : Type 0 where
  pub name : Spot
  pub sort : Spot
  pub value : Expr

pub record SynonymDefinitions : Type 0 where
  pub word : Spelling
  pub synonyms : List SynonymDefinition

pub record ParameterGroup : Type 0 where
  pub names : List Spot
  pub sort : Spot

pub record FormalParameters : Type 0 where
  pub word : Spelling
  pub groups : List ParameterGroup

pub record VariableGroup : Type 0 where
  pub names : List Spot
  pub sort : Spot
  pub initial : Option Expr

pub record TimerDefinition : Type 0 where
  pub name : Spot
  pub sorts : List Spot
  pub duration : Option Expr

pub record TimerDefinitions : Type 0 where
  pub word : Spelling
  pub timers : List TimerDefinition

pub record SignalSet : Type 0 where
  pub word : Spelling
  pub items : List SignalListItem

pub data LocalDefinition : Type 0 where
  LocalSignals : (signals : List SignalDefinition) → LocalDefinition
  LocalSignalList : (list : SignalListDefinition) → LocalDefinition
  LocalSynonyms : (synonyms : SynonymDefinitions) → LocalDefinition
  LocalSignalSet : (signals : SignalSet) → LocalDefinition
  Variables : (groups : List VariableGroup) → LocalDefinition
  Timers : (timers : TimerDefinitions) → LocalDefinition

-- what stands from the comma on in the counts of a process
pub record Bound : Type 0 where
  pub maximum : Option Expr

pub record Counts : Type 0 where
  pub parenthesis : Spelling
  pub initial : Option Expr
  pub bound : Option Bound

pub record ProcessDefinition : Type 0 where
  pub word : Spelling
  pub name : Spot
  pub counts : Option Counts
  pub parameters : Option FormalParameters
  pub definitions : List LocalDefinition
  pub start : Start
  pub body : List BodyPart

pub data ChannelEnd : Type 0 where
  Env : (word : Spelling) → ChannelEnd
  Agent : (name : Spot) → ChannelEnd

pub record ChannelPath : Type 0 where
  pub from : ChannelEnd
  pub to : ChannelEnd
  pub signals : List SignalListItem

pub record ChannelDefinition : Type 0 where
  pub word : Spelling
  pub name : Spot
  pub is_nodelay : Bool
  pub first : ChannelPath
  pub second : Option ChannelPath

-- channels outside of a block that are joined with channels in it
pub record Connection : Type 0 where
  pub word : Spelling
  pub outer : List Spot
  pub inner : List Spot

-- what both a system and a block can define
pub data Definition : Type 0 where
  Signals : (signals : List SignalDefinition) → Definition
  SignalList : (list : SignalListDefinition) → Definition
  Synonyms : (synonyms : SynonymDefinitions) → Definition
  Channel : (channel : ChannelDefinition) → Definition
  Process : (process : ProcessDefinition) → Definition

pub data BlockPart : Type 0 where
  InBlock : (definition : Definition) → BlockPart
  Connect : (connection : Connection) → BlockPart

pub record BlockDefinition : Type 0 where
  pub word : Spelling
  pub name : Spot
  pub definitions : List BlockPart

pub data SystemDefinition : Type 0 where
  InSystem : (definition : Definition) → SystemDefinition
  Block : (block : BlockDefinition) → SystemDefinition

pub record Tree : Type 0 where
  pub name : Spot
  pub definitions : List SystemDefinition
