-- What the tables mean that hold what states say: conditions stand for what they come to, and transitions by their
-- numbers for the bodies of those numbers.
use Rattle.std.specs.Prelude.{◌≡◌, ◌≤◌, ℕ, List, All, Option, None, Some, map, option_map, slice_get}
use Rattle.std.specs.List.{AllZip}
use Rattle.port_model.specs.declared.values.item.SignalId.{SignalId}
use Rattle.build_states.specs.Mentions as said
use Rattle.build_states.specs.States as said_of
use Rattle.build_states.specs.States.{Numbered, Table, named_in}
use Rattle.build_states.specs.Tabled.{meanings_at}
use Rattle.sdl_system.specs.Behaviour.{ContinuousSignal, MeansState, Response, StateMeaning, input, priority_input, save}
use Rattle.sdl_system.specs.Term.{Term, term_of}
use Rattle.sdl_system.specs.declared.id.ConditionId.{ConditionId}
use Rattle.sdl_system.specs.declared.id.NodeId.{NodeId}
use Rattle.sdl_system.specs.declared.id.TableId.{TableId}
use Rattle.sdl_system.specs.declared.id.VariableId.{VariableId}
use Rattle.sdl_system.specs.declared.process.Process.{Process}
use Rattle.sdl_system.specs.declared.process.State.{State}
use Rattle.sdl_system.specs.declared.state.StateTable.{StateTable}
use Rattle.sdl_tree.specs.Words.{Spot}

-- ---- what states mean

abbrev pub come_to : Option (Option Term) → Option Term
come_to None = None
come_to (Some term) = term

-- what the condition of this number comes to, where no rule is broken in it
abbrev pub condition_at : List (Option Term) → ConditionId → Option Term
condition_at conditions number = come_to (slice_get conditions number.0)

abbrev pub input_meaning : List (Option Term) → List (Option VariableId) → Option ConditionId → ℕ → Option Response
input_meaning conditions variables None body = Some (input variables None body)
input_meaning conditions variables (Some number) body =
    option_map (λ term. input variables (Some term) body) (condition_at conditions number)

-- what it means that this is said of a signal; none where its condition comes to nothing
abbrev pub response_meaning : List (Option Term) → said.Response → Option Response
response_meaning conditions (said.input variables condition begin) =
    input_meaning conditions variables condition begin.0
response_meaning conditions (said.priority_input variables begin) = Some (priority_input variables begin.0)
response_meaning conditions said.save = Some save

abbrev pub continuous_meaning : List (Option Term) → Numbered → Option ContinuousSignal
continuous_meaning conditions one =
    option_map (λ term. record { condition = term; number = one.number; body = one.signal.begin.0 })
    (condition_at conditions one.signal.condition)

-- What a state means that says this: each of its conditions comes to something.
pub record IsMeaning (conditions : List (Option Term)) (said : said_of.StateMeaning)
    (meaning : StateMeaning) : Type 0 where
  pub name_is : said.name ≡ meaning.name
  pub named_is : (signal : SignalId) →
      option_map (response_meaning conditions) (said.named signal) ≡ option_map Some (meaning.named signal)
  pub rest_is : option_map (response_meaning conditions) said.rest ≡ option_map Some meaning.rest
  pub enabling_is : map (condition_at conditions) said.enabling ≡ map Some meaning.enabling
  pub continuous_is : map (continuous_meaning conditions) said.continuous ≡ map Some meaning.continuous

-- ---- processes with these tables

-- the process has these conditions
abbrev pub HasConditions : Process → List (Option Term) → Type 0
HasConditions process conditions = map (λ expression. Some (term_of expression)) process.conditions.items ≡ conditions

-- no signal past so many is named
abbrev pub NamesWithin : ℕ → Table → Type 0
NamesWithin count table = (signal : SignalId) → count ≤ signal.0 → named_in table.answers.named signal ≡ None

-- the table of each state, where these are the tables
abbrev pub tables_at : List Table → List TableId → List (Option Table)
tables_at tables numbers = map (λ number. slice_get tables number.0) numbers

-- A process with these states and tables, and with these conditions, does what its states mean.
abbrev pub StatesMean : List NodeId → ℕ → List Spot → List Table → List TableId → List State → List StateTable → Type 0
StatesMean entries count names tables numbers states made =
    (process : Process) (conditions : List (Option Term)) (says : List said_of.StateMeaning)
    (meanings : List StateMeaning)
    → process.tables.items ≡ made → HasConditions process conditions → All (NamesWithin count) tables
    → meanings_at names (tables_at tables numbers) ≡ map Some says → AllZip (IsMeaning conditions) says meanings
    → AllZip (MeansState process entries) states meanings
