-- What a process is made of.
use Rattle.std.specs.Prelude.{◌≡◌, ℕ, List, Option, None, Some, Contains, map, slice_get}
use Rattle.std.specs.List.{AllZip}
use Rattle.build_process.specs.declared.transitions.Transitions.{Transitions}
use Rattle.build_states.specs.States.{Table}
use Rattle.sdl_system.specs.declared.expression.Expression.{Expression}
use Rattle.sdl_system.specs.declared.id.NodeId.{NodeId}
use Rattle.sdl_system.specs.declared.id.TableId.{TableId}
use Rattle.sdl_system.specs.declared.process.Process.{Process}
use Rattle.build_tables.specs.Linked.{IsTable}
use Rattle.build_tables.specs.Stated.{SomeLacks, state_value, states_listed}
use Rattle.sdl_tree.specs.Words.{Spot}
use Rattle.build_process.specs.declared.heading.Heading.{Heading}

-- the process has what its heading says
pub record IsHeaded (heading : Heading) (process : Process) : Type 0 where
  pub name : process.name ≡ heading.name
  pub initial : process.initial ≡ heading.initial
  pub maximum : process.maximum ≡ heading.maximum
  pub parameters : process.parameters ≡ heading.parameters
  pub variables : process.variables ≡ heading.variables
  pub valid : process.valid ≡ heading.valid

-- what the states of a process say, with its conditions
pub record Said : Type 0 where
  pub names : List Spot
  pub tables : List Table
  pub numbers : List TableId
  pub conditions : List (Option Expression)

-- The process has these transitions, and states that do what is said, where a system has so many signals.
pub record IsMade (signals : ℕ) (said : Said) (transitions : Transitions) (heading : Heading)
    (process : Process) : Type 0 where
  pub headed : IsHeaded heading process
  pub conditions : map Some process.conditions.items ≡ said.conditions
  pub nodes : process.nodes ≡ transitions.nodes
  pub start : slice_get transitions.entries.items 0 ≡ Some process.start
  pub tables : AllZip (IsTable transitions.entries.items heading.valid signals) said.tables process.tables.items
  pub states : map state_value process.states.items ≡ states_listed said.names said.numbers

-- what isn't there of which the process would be made
pub data IsMissing (said : Said) (entries : List NodeId) : Type 0 where
  -- a rule is broken in a condition
  no_condition : Contains said.conditions None → IsMissing said entries
  no_start : slice_get entries 0 ≡ None → IsMissing said entries
  no_entry : SomeLacks entries said.tables → IsMissing said entries

abbrev pub MadeOf : ℕ → Said → Transitions → Heading → Option Process → Type 0
MadeOf signals said transitions heading None = IsMissing said transitions.entries.items
MadeOf signals said transitions heading (Some process) = IsMade signals said transitions heading process
