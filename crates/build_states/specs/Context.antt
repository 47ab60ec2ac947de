-- What the stimuli of a process can name.
use Rattle.std.specs.Prelude.{ℕ, List, [], Option, map, slice_get, unwrap_or}
use Rattle.std.specs.Borrow.{Bor}
use Rattle.std.specs.Global.{Vec}
use Rattle.port_model.specs.declared.values.item.SignalId.{SignalId}
use Rattle.build_definitions.specs.declared.entries.SignalListId.{SignalListId}
use Rattle.build_names.specs.Names.{first_of}
use Rattle.build_expressions.specs.Scope.{Scope, meaning, scope_of, visible}
use Rattle.build_states.specs.declared.stimuli.context.Context as contexts

pub record Context : Type 0 where
  -- variables, formal parameters and synonyms; signals and timers
  pub scope : Scope
  -- signal lists, each with the signals that it stands for, also through lists within it
  pub lists : List (List ℕ × List SignalId)

-- the signals for which the list of this name stands
abbrev pub list_in : Context → List ℕ → Option (List SignalId)
list_in context text = first_of context.lists text

-- ---- what the code keeps

abbrev pub signals_listed : Bor (List SignalId) → List SignalId
signals_listed signals = signals.now

abbrev pub items_of : Vec SignalId → List SignalId
items_of own = own.items

abbrev pub listed_members : List (Vec SignalId) → List (List SignalId)
listed_members members = map items_of members

-- the signals that the list of this number stands for
abbrev pub members_of : List (List SignalId) → SignalListId → List SignalId
members_of members list = unwrap_or (slice_get members list.0) []

abbrev pub context_of : contexts.Context → Context
context_of context = record {
  scope = scope_of context.scope;
  lists = meaning (members_of (listed_members context.members.now)) (visible context.lists);
}
