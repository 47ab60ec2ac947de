-- What a process means, as plain data (Z.101: process, state; Z.102: transition).
use Rattle.std.specs.Prelude.{◌≡◌, ℕ, Bool, List, Option, None, Some, length, map, slice_get, string_bytes}
use Rattle.std.specs.List.{AllZip}
use Rattle.std.specs.Option.{option_map}
use Rattle.port_model.specs.declared.values.item.SignalId.{SignalId}
use Rattle.port_model.specs.declared.values.value.Value.{Value}
use Rattle.sdl_system.specs.Body.{Body}
use Rattle.sdl_system.specs.Signal.{is_member}
use Rattle.sdl_system.specs.State.{named_reaction, or_rest}
use Rattle.sdl_system.specs.Table.{IsTableOf}
use Rattle.sdl_system.specs.Term.{Term, term_of}
use Rattle.sdl_system.specs.declared.id.ConditionId.{ConditionId}
use Rattle.sdl_system.specs.declared.id.NodeId.{NodeId}
use Rattle.sdl_system.specs.declared.id.VariableId.{VariableId}
use Rattle.sdl_system.specs.declared.process.Process.{Process}
use Rattle.sdl_system.specs.declared.process.State as declared
use Rattle.sdl_system.specs.declared.process.Variable.{Variable}
use Rattle.sdl_system.specs.declared.sort.Sort.{Sort}
use Rattle.sdl_system.specs.declared.state.Continuous.{Continuous}
use Rattle.sdl_system.specs.declared.state.Enabling.{Enabling}
use Rattle.sdl_system.specs.declared.state.Reaction.{Reaction}
use Rattle.sdl_system.specs.declared.state.Reaction.TheVariants as react
use Rattle.sdl_system.specs.declared.state.StateTable.{StateTable}

-- ---- the meaning

-- What a state does with a signal. Bodies are named by their numbers.
pub data Response : Type 0 where
  -- the values go to the variables and the body begins, where the condition is true; else the signal waits
  input : (variables : List (Option VariableId)) (condition : Option Term) (body : ℕ) → Response
  -- the values go to the variables and the body begins, before the signals that are no priority inputs
  priority_input : (variables : List (Option VariableId)) (body : ℕ) → Response
  -- the signal waits
  save : Response

-- a continuous signal, with its number in the order of the text
pub record ContinuousSignal : Type 0 where
  pub condition : Term
  pub number : ℕ
  pub body : ℕ

pub record StateMeaning : Type 0 where
  pub name : List ℕ
  -- what is done with the signals that the state names
  pub named : SignalId → Option Response
  -- what is done with the others of the valid input set
  pub rest : Option Response
  -- the enabling conditions in the order of the text
  pub enabling : List Term
  -- the continuous signals in the order in which they are tried
  pub continuous : List ContinuousSignal

-- a variable with its sort, and with the value that it has before the start, where it has one
pub record VariableMeaning : Type 0 where
  pub name : List ℕ
  pub sort : Sort
  pub initial : Option Value

pub record Behaviour : Type 0 where
  pub variables : List VariableMeaning
  -- how many of them are formal parameters: the first ones
  pub parameters : ℕ
  -- whether a signal is in the valid input set
  pub is_valid : SignalId → Bool
  -- what the transitions do, by number
  pub bodies : List Body
  -- the body that begins at the start
  pub start : ℕ
  pub states : List StateMeaning

-- what a state does with a signal: what it says of it by name, else what an asterisk says of the valid input set
abbrev pub response_to : Behaviour → StateMeaning → SignalId → Option Response
response_to behaviour state signal = or_rest (state.named signal) (behaviour.is_valid signal) state.rest

-- ---- what a process means

abbrev pub variable_meaning : Variable → VariableMeaning
variable_meaning variable =
    record { name = string_bytes variable.name; sort = variable.sort; initial = variable.initial }

-- the condition of this number
abbrev pub condition_in : Process → ConditionId → Option Term
condition_in process number = option_map term_of (slice_get process.conditions.items number.0)

-- a condition that may be missing
abbrev pub MeansCondition : Process → Option ConditionId → Option Term → Type 0
MeansCondition process None None = Unit {0}
MeansCondition process (Some number) (Some term) = condition_in process number ≡ Some term
MeansCondition process number term = ⊥

-- What the table says of a signal is the response. `entries` has the node at which each body begins.
abbrev pub MeansResponse : Process → List NodeId → Option Reaction → Option Response → Type 0
MeansResponse process entries None None = Unit {0}
MeansResponse process entries (Some (react.Input reception condition)) (Some (input variables term body)) =
    (reception.variables.items ≡ variables) × MeansCondition process condition term
    × (slice_get entries body ≡ Some reception.begin)
MeansResponse process entries (Some (react.Priority reception)) (Some (priority_input variables body)) =
    (reception.variables.items ≡ variables) × (slice_get entries body ≡ Some reception.begin)
MeansResponse process entries (Some react.Save) (Some save) = Unit {0}
MeansResponse process entries reaction response = ⊥

pub record MeansContinuous (process : Process) (entries : List NodeId) (signal : Continuous)
    (meaning : ContinuousSignal) : Type 0 where
  pub condition_is : condition_in process signal.condition ≡ Some meaning.condition
  pub number_is : signal.number ≡ meaning.number
  pub begins : slice_get entries meaning.body ≡ Some signal.begin

-- the table of a state does what the state means
pub record MeansTable (process : Process) (entries : List NodeId) (table : StateTable)
    (meaning : StateMeaning) : Type 0 where
  pub named_is : (signal : SignalId)
      → MeansResponse process entries (named_reaction table.reactions signal) (meaning.named signal)
  pub rest_is : MeansResponse process entries table.rest meaning.rest
  pub enabling_is : map (λ (e : Enabling). condition_in process e.condition) table.conditions.items
      ≡ map Some meaning.enabling
  pub continuous_is : AllZip (MeansContinuous process entries) table.continuous.items meaning.continuous

pub record MeansState (process : Process) (entries : List NodeId) (state : declared.State)
    (meaning : StateMeaning) : Type 0 where
  pub name_is : string_bytes state.name ≡ meaning.name
  pub table : StateTable
  pub listed : slice_get process.tables.items state.table.0 ≡ Some table
  pub does : MeansTable process entries table meaning

-- The process does what the behaviour says: its nodes are the table of the bodies, and its states the table of the
-- responses.
pub record Means (process : Process) (behaviour : Behaviour) : Type 0 where
  pub entries : List NodeId
  pub sized : length entries ≡ length behaviour.bodies
  pub variables_are : map variable_meaning process.variables.items ≡ behaviour.variables
  pub parameters_are : process.parameters ≡ behaviour.parameters
  pub valid_is : (signal : SignalId) → is_member process.valid signal ≡ behaviour.is_valid signal
  pub bodies_are : IsTableOf behaviour.bodies entries process.nodes.items
  pub start_is : slice_get entries behaviour.start ≡ Some process.start
  pub states_are : AllZip (MeansState process entries) process.states.items behaviour.states
