-- Each number that stands in a system is the number of something, and the tables of a state agree with one another.
use Rattle.std.specs.Prelude.{◌≡◌, ◌↔◌, ◌<◌, ◌≤◌, ℕ, suc, true, List, None, Some, All, Contains, IfSome, length, slice_get}
use Rattle.port_model.specs.declared.values.item.SignalId.{SignalId}
use Rattle.port_model.specs.Selection as selection
use Rattle.port_model.specs.declared.selection.Class.TheVariants as class
use Rattle.sdl_system.specs.Body as body
use Rattle.sdl_system.specs.Body.{Action, Assigning, Timing, Whither, When}
use Rattle.sdl_system.specs.Process.{choice_in, table_of}
use Rattle.sdl_system.specs.Signal.{is_member}
use Rattle.sdl_system.specs.Sort.{has_sort}
use Rattle.sdl_system.specs.State.{named_reaction}
use Rattle.sdl_system.specs.System.{SystemValue, meaning_of}
use Rattle.sdl_system.specs.Table.{action_of}
use Rattle.sdl_system.specs.Term as term
use Rattle.sdl_system.specs.Term.{Term, Terms, term_of}
use Rattle.sdl_system.specs.declared.id.ConditionId.{ConditionId}
use Rattle.sdl_system.specs.declared.id.NodeId.{NodeId}
use Rattle.sdl_system.specs.declared.id.ProcessId.{ProcessId}
use Rattle.sdl_system.specs.declared.id.StateId.{StateId}
use Rattle.sdl_system.specs.declared.id.VariableId.{VariableId}
use Rattle.sdl_system.specs.declared.process.Process.{Process}
use Rattle.sdl_system.specs.declared.process.State as declared
use Rattle.sdl_system.specs.declared.process.Variable.{Variable}
use Rattle.sdl_system.specs.declared.route.Reach.{Reach}
use Rattle.sdl_system.specs.declared.route.Routes.{Routes}
use Rattle.sdl_system.specs.declared.signal.Signal.{Signal}
use Rattle.sdl_system.specs.declared.signal.Timer.{Timer}
use Rattle.sdl_system.specs.declared.state.Continuous.{Continuous}
use Rattle.sdl_system.specs.declared.state.Enabled as enabled
use Rattle.sdl_system.specs.declared.state.Enabled.TheVariants as whom
use Rattle.sdl_system.specs.declared.state.Enabling.{Enabling}
use Rattle.sdl_system.specs.declared.state.Reaction.{Reaction}
use Rattle.sdl_system.specs.declared.state.Reaction.TheVariants as react
use Rattle.sdl_system.specs.declared.state.Reception.{Reception}
use Rattle.sdl_system.specs.declared.state.StateTable.{StateTable}
use Rattle.sdl_system.specs.declared.statement.Branch.{Branch}
use Rattle.sdl_system.specs.declared.statement.Node.{Node}
use Rattle.sdl_system.specs.declared.statement.Statement as statement
use Rattle.sdl_system.specs.declared.statement.Statement.TheVariants as kind
use Rattle.sdl_system.specs.declared.statement.Way.{Way}

-- ---- numbers

-- a variable, a node, a state or a condition of the process
abbrev pub IsVariable : Process → VariableId → Type 0
IsVariable process variable = variable.0 < length process.variables.items

abbrev pub IsNode : Process → NodeId → Type 0
IsNode process node = node.0 < length process.nodes.items

abbrev pub IsState : Process → StateId → Type 0
IsState process state = state.0 < length process.states.items

abbrev pub IsCondition : Process → ConditionId → Type 0
IsCondition process condition = condition.0 < length process.conditions.items

-- a signal of the system that takes so many values
pub record IsSignal (system : SystemValue) (number : SignalId) (values : ℕ) : Type 0 where
  pub signal : Signal
  pub listed : slice_get system.signals number.0 ≡ Some signal
  pub takes : length signal.sorts.items ≡ values
  pub none : signal.timer ≡ None

-- a timer of the system that takes so many values
pub record IsTimer (system : SystemValue) (number : SignalId) (values : ℕ) : Type 0 where
  pub signal : Signal
  pub listed : slice_get system.signals number.0 ≡ Some signal
  pub takes : length signal.sorts.items ≡ values
  pub timer : Timer
  pub some : signal.timer ≡ Some timer

-- a process of the system that takes so many values
pub record IsCreated (system : SystemValue) (number : ProcessId) (values : ℕ) : Type 0 where
  pub process : Process
  pub listed : slice_get system.processes number.0 ≡ Some process
  pub takes : process.parameters ≡ values

-- a process of the system
abbrev pub IsProcess : SystemValue → ProcessId → Type 0
IsProcess system process = process.0 < length system.processes

-- ---- expressions and statements

abbrev pub count_terms : Terms → ℕ
count_terms term.no_term = 0
count_terms (term.and_term first rest) = suc (count_terms rest)

-- the variables and timers of an expression are there
abbrev mutual
  pub IsSoundTerm : SystemValue → Process → Term → Type 0
  IsSoundTerm system process (term.constant value) = Unit {0}
  IsSoundTerm system process (term.variable number) = IsVariable process number
  IsSoundTerm system process term.now = Unit {0}
  IsSoundTerm system process (term.pid who) = Unit {0}
  IsSoundTerm system process (term.active timer values) =
      IsTimer system timer (count_terms values) × AreSoundTerms system process values
  IsSoundTerm system process (term.unary operation operand) = IsSoundTerm system process operand
  IsSoundTerm system process (term.binary operation left right) =
      IsSoundTerm system process left × IsSoundTerm system process right

  pub AreSoundTerms : SystemValue → Process → Terms → Type 0
  AreSoundTerms system process term.no_term = Unit {0}
  AreSoundTerms system process (term.and_term first rest) = IsSoundTerm system process first
      × AreSoundTerms system process rest

abbrev pub IsSoundAssigning : SystemValue → Process → Assigning → Type 0
IsSoundAssigning system process one = IsVariable process one.variable × IsSoundTerm system process one.value

abbrev pub IsSoundSending : SystemValue → Process → body.Sending → Type 0
IsSoundSending system process one = IsSignal system one.signal (length one.values)
    × All (IsSoundTerm system process) one.values

abbrev pub IsSoundWhither : SystemValue → Process → Whither → Type 0
IsSoundWhither system process (body.to_process number) = IsProcess system number
IsSoundWhither system process (body.to_pid who) = IsSoundTerm system process who

abbrev pub IsSoundTiming : SystemValue → Process → Timing → Type 0
IsSoundTiming system process one = IsTimer system one.timer (length one.values)
    × All (IsSoundTerm system process) one.values

abbrev pub IsSoundWhen : SystemValue → Process → When → Type 0
IsSoundWhen system process (body.at time) = IsSoundTerm system process time
IsSoundWhen system process (body.after ticks) = Unit {0}

abbrev pub IsSoundSetting : SystemValue → Process → body.Setting → Type 0
IsSoundSetting system process one = IsSoundTiming system process one.timer × IsSoundWhen system process one.due

-- what an action names is there, and takes as many values as it has
abbrev pub IsSoundAction : SystemValue → Process → Action → Type 0
IsSoundAction system process (body.task assignments) = All (IsSoundAssigning system process) assignments
IsSoundAction system process (body.output signals to) =
    All (IsSoundSending system process) signals × IfSome to (IsSoundWhither system process)
IsSoundAction system process (body.set timers) = All (IsSoundSetting system process) timers
IsSoundAction system process (body.reset timers) = All (IsSoundTiming system process) timers
IsSoundAction system process (body.create number values) =
    IsCreated system number (length values) × All (IsSoundTerm system process) values

-- a way of a decision leads to a node, if it leads anywhere
abbrev pub IsSoundWay : Process → Way → Type 0
IsSoundWay process way = IfSome way.0 (IsNode process)

abbrev pub IsSoundStatement : SystemValue → Process → statement.Statement → Type 0
IsSoundStatement system process (kind.Decision asked) =
    IsSoundTerm system process (term_of asked.question)
    × All (λ (branch : Branch). IsSoundWay process branch.way) asked.branches.items
    × IfSome asked.otherwise (IsSoundWay process)
IsSoundStatement system process (kind.NextState state) = IsState process state
IsSoundStatement system process other = IfSome (action_of other) (IsSoundAction system process)

-- what the statement of a node names is there, and so is the node behind it
pub record IsSoundNode (system : SystemValue) (process : Process) (node : Node) : Type 0 where
  pub statement : IsSoundStatement system process node.statement
  pub next : IfSome node.next (IsNode process)

-- ---- states

-- the variables of an input are there, and no more than the signal has values
pub record IsSoundReception (system : SystemValue) (process : Process) (number : SignalId)
    (reception : Reception) : Type 0 where
  pub signal : Signal
  pub listed : slice_get system.signals number.0 ≡ Some signal
  pub fits : length reception.variables.items ≤ length signal.sorts.items
  pub variables : All (λ variable. IfSome variable (IsVariable process)) reception.variables.items
  pub begins : IsNode process reception.begin

abbrev pub IsSoundReaction : SystemValue → Process → SignalId → Reaction → Type 0
IsSoundReaction system process number (react.Input reception condition) =
    IsSoundReception system process number reception × IfSome condition (IsCondition process)
IsSoundReaction system process number (react.Priority reception) = IsSoundReception system process number reception
IsSoundReaction system process number react.Save = number.0 < length system.signals

-- an asterisk stands with an input or a save, and has no variables
abbrev pub IsSoundRest : Process → Reaction → Type 0
IsSoundRest process (react.Input reception condition) =
    (length reception.variables.items ≡ 0) × IsNode process reception.begin × IfSome condition (IsCondition process)
IsSoundRest process (react.Priority reception) = ⊥
IsSoundRest process react.Save = Unit {0}

-- the signal is one of those that wait while the condition is false
abbrev pub IsEnabled : Process → StateTable → enabled.Enabled → SignalId → Type 0
IsEnabled process table (whom.Named list) signal = Contains list.items signal
IsEnabled process table whom.Rest signal = (named_reaction table.reactions signal ≡ None)
    × (is_member process.valid signal ≡ true)

-- an enabling condition of the table stands with the signal
pub record WaitsFor (process : Process) (table : StateTable) (signal : SignalId)
    (condition : ConditionId) : Type 0 where
  pub enabling : Enabling
  pub listed : Contains table.conditions.items enabling
  pub is : enabling.condition ≡ condition
  pub enables : IsEnabled process table enabling.signals signal

-- The selection of a table has the class of each of so many signals, of which others are discarded, and its enabling
-- conditions stand with the signals that are inputs under them.
pub record Keeps (count : ℕ) (process : Process) (table : StateTable) : Type 0 where
  pub selects : (signal : SignalId)
      → selection.class_of table.selection signal ≡ (choice_in process table signal).class
  pub past : (signal : SignalId) → count ≤ signal.0 → (choice_in process table signal).class ≡ class.Discard
  pub waits : (signal : SignalId) (condition : ConditionId)
      → ((choice_in process table signal).condition ≡ Some condition) ↔ WaitsFor process table signal condition

-- The numbers of a table are those of something, and its selection and its conditions are those of its reactions.
pub record IsSoundTable (system : SystemValue) (process : Process) (table : StateTable) : Type 0 where
  pub reactions : All (λ (entry : SignalId × Reaction). IsSoundReaction system process entry.0 entry.1) table.reactions
  pub rest : IfSome table.rest (IsSoundRest process)
  pub conditions : All (λ (e : Enabling). IsCondition process e.condition) table.conditions.items
  pub continuous : All (λ (c : Continuous). IsCondition process c.condition × IsNode process c.begin)
      table.continuous.items
  pub keeps : Keeps (length system.signals) process table

-- ---- processes

-- the variable's value has its sort
abbrev pub IsSoundVariable : Variable → Type 0
IsSoundVariable variable = IfSome variable.initial (λ value. has_sort variable.sort value ≡ true)

-- Each number in a process is that of something, there are no more instances at the start than there may be, and formal
-- parameters are variables.
pub record IsSoundProcess (system : SystemValue) (process : Process) : Type 0 where
  pub counts : IfSome process.maximum (λ maximum. (1 ≤ maximum) × (process.initial ≤ maximum))
  pub parameters : process.parameters ≤ length process.variables.items
  pub variables : All IsSoundVariable process.variables.items
  pub states : All (λ (state : declared.State). state.table.0 < length process.tables.items) process.states.items
  pub tables : All (IsSoundTable system process) process.tables.items
  pub conditions : All (λ expression. IsSoundTerm system process (term_of expression)) process.conditions.items
  pub nodes : All (IsSoundNode system process) process.nodes.items
  pub start : IsNode process process.start

-- ---- routes

abbrev pub IsSoundReach : Routes → Reach → Type 0
IsSoundReach routes reach = reach.receivers.0 < length routes.lists.items

-- there is a row for each process, and an entry in it for each signal; lists have processes of the system
pub record AreSoundRoutes (system : SystemValue) (routes : Routes) : Type 0 where
  pub lists : All (λ list. All (IsProcess system) list.items) routes.lists.items
  pub env : All (IsSoundReach routes) routes.env.items
  pub env_signals : length routes.env.items ≡ length system.signals
  pub rows : All (λ row. All (IsSoundReach routes) row.items × (length row.items ≡ length system.signals))
      routes.processes.items
  pub processes : length routes.processes.items ≡ length system.processes

-- ---- the system

pub record IsSound (system : SystemValue) : Type 0 where
  pub timers : All (λ (signal : Signal). IfSome signal.timer (λ timer. IsProcess system timer.process)) system.signals
  pub processes : All (IsSoundProcess system) system.processes
  pub routes : AreSoundRoutes system system.routes
  pub own_signals : (text : List ℕ) → IfSome (meaning_of system.own_signals text)
      (λ number. number.0 < length system.signals)
  pub process_names : (text : List ℕ) → IfSome (meaning_of system.process_names text) (IsProcess system)

-- in a sound system each state of a process has its table
abbrev pub StatesHaveTables : Type 0
StatesHaveTables =
    (system : SystemValue) (process : Process) → IsSoundProcess system process → (number : StateId)
    → IsState process number
    → (table : StateTable) × (table_of process number ≡ Some table) × IsSoundTable system process table
