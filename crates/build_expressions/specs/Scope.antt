-- What names stand for at a place of the text. A scope has the names of its own, then those of the scopes round it: what a
-- name stands for is the first entry of its text.
use Rattle.std.specs.Prelude.{◌++◌, ℕ, Bool, List, Option, map, slice_get}
use Rattle.std.specs.Option.{unwrap_or}
use Rattle.port_model.specs.declared.values.item.SignalId.{SignalId}
use Rattle.build_names.specs.Names.{first_of, names_in}
use Rattle.build_names.specs.declared.scopes.names.Outward.{Outward}
use Rattle.build_expressions.specs.declared.scope.AgentMeaning as agents
use Rattle.build_expressions.specs.declared.scope.AgentMeaning.TheVariants as agent
use Rattle.build_expressions.specs.declared.scope.Scope as scopes
use Rattle.build_expressions.specs.declared.scope.SignalMeaning as signals
use Rattle.build_expressions.specs.declared.scope.SignalMeaning.TheVariants as meant
use Rattle.build_expressions.specs.declared.scope.Constant.{Constant}
use Rattle.build_expressions.specs.declared.scope.Constant.TheVariants.{NoValue}
use Rattle.build_expressions.specs.declared.scope.SynonymId.{SynonymId}
use Rattle.build_expressions.specs.declared.scope.ValueEntry.{ValueEntry}
use Rattle.build_expressions.specs.declared.scope.ValueEntry.TheVariants as entry
use Rattle.build_expressions.specs.declared.scope.ValueMeaning.{ValueMeaning}
use Rattle.build_expressions.specs.declared.scope.ValueMeaning.TheVariants as value
use Rattle.sdl_system.specs.declared.id.ProcessId.{ProcessId}
use Rattle.sdl_system.specs.declared.sort.Sort.{Sort}

-- A signal or a timer, with the sorts of its parameters. A sort is None where its name is no sort's.
pub data SignalMeaning : Type 0 where
  signal : (number : SignalId) (sorts : List (Option Sort)) → SignalMeaning
  timer : (number : SignalId) (sorts : List (Option Sort)) (has_default : Bool) → SignalMeaning

-- a process, with the sorts of its formal parameters, or a block
pub data AgentMeaning : Type 0 where
  process : (number : ProcessId) (sorts : List (Option Sort)) → AgentMeaning
  block : AgentMeaning

-- the names that are seen at a place, those of the inner scopes first
pub record Scope : Type 0 where
  pub values : List (List ℕ × ValueMeaning)
  pub signals : List (List ℕ × SignalMeaning)
  pub agents : List (List ℕ × AgentMeaning)

abbrev pub value_in : Scope → List ℕ → Option ValueMeaning
value_in scope text = first_of scope.values text

abbrev pub signal_in : Scope → List ℕ → Option SignalMeaning
signal_in scope text = first_of scope.signals text

abbrev pub agent_in : Scope → List ℕ → Option AgentMeaning
agent_in scope text = first_of scope.agents text

-- ---- what the code keeps

abbrev pub signal_meaning : signals.SignalMeaning → SignalMeaning
signal_meaning (meant.Signal number sorts) = signal number sorts.now
signal_meaning (meant.Timer number sorts has_default) = timer number sorts.now has_default

-- what a synonym comes to; one that has no place among them has no value
abbrev pub constant_at : List Constant → SynonymId → Constant
constant_at constants synonym = unwrap_or (slice_get constants synonym.0) NoValue

-- what a name stands for, where the synonyms come to these constants
abbrev pub value_meaning : List Constant → ValueEntry → ValueMeaning
value_meaning constants (entry.Variable number sort) = value.Variable number sort
value_meaning constants (entry.Synonym number sort) = value.Synonym sort (constant_at constants number)

abbrev pub agent_meaning : agents.AgentMeaning → AgentMeaning
agent_meaning (agent.Process number sorts) = process number sorts.now
agent_meaning agent.Block = block

-- the names of a process, of its block and of the system
abbrev pub visible : {T : Type 0} → Outward T → List (List ℕ × T)
visible names = names_in names.process ++ (names_in names.block ++ names.system.now)

-- the names, each with what this makes of its meaning
abbrev pub meaning : {A B : Type 0} → (A → B) → List (List ℕ × A) → List (List ℕ × B)
meaning f names = map (λ entry. (entry.0, f entry.1)) names

abbrev pub scope_of : scopes.Scope → Scope
scope_of scope = record {
  values = meaning (value_meaning scope.constants.now) (visible scope.values);
  signals = meaning signal_meaning (visible scope.signals);
  agents = meaning agent_meaning (visible scope.agents);
}
