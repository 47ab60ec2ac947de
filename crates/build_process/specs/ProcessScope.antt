-- What the names in a process stand for.
use Rattle.std.specs.Prelude.{ℕ, ℤ, Bool, List, Option}
use Rattle.port_model.specs.declared.values.item.SignalId.{SignalId}
use Rattle.build_statements.specs.Contexts as nodes
use Rattle.build_expressions.specs.Scope.{Scope, meaning, scope_of, visible}
use Rattle.build_states.specs.Context as stimuli
use Rattle.build_states.specs.Context.{listed_members, members_of}
use Rattle.sdl_system.specs.declared.id.LabelId.{LabelId}
use Rattle.sdl_system.specs.declared.id.StateId.{StateId}
use Rattle.build_process.specs.declared.process_scope.ProcessScope as declared

pub record ProcessScope : Type 0 where
  -- variables, formal parameters and synonyms; signals and timers; processes and blocks
  pub scope : Scope
  -- signal lists, each with the signals that it stands for, also through lists within it
  pub lists : List (List ℕ × List SignalId)
  -- the states and the labels of the process
  pub states : List (List ℕ × StateId)
  pub labels : List (List ℕ × LabelId)
  -- whether a path leads a signal to a receiver, by the signal's number
  pub reaches : List Bool
  -- the default duration of a timer, by the timer's number
  pub durations : List (Option ℤ)
  -- how many signals and timers the system has
  pub signals : ℕ

-- what stimuli can name
abbrev pub for_stimuli : ProcessScope → stimuli.Context
for_stimuli around = record { scope = around.scope; lists = around.lists }

-- what transitions can name
abbrev pub for_transitions : ProcessScope → nodes.Context
for_transitions around = record {
  scope = around.scope;
  states = around.states;
  labels = around.labels;
  reaches = around.reaches;
  durations = around.durations;
}

-- ---- what the code keeps

abbrev pub process_scope_of : declared.ProcessScope → ProcessScope
process_scope_of around = record {
  scope = scope_of around.scope;
  lists = meaning (members_of (listed_members around.members.now)) (visible around.lists);
  states = around.states.table.now;
  labels = around.labels.now;
  reaches = around.reaches.now;
  durations = around.durations.now;
  signals = around.signals;
}
