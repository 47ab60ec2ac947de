-- The rules that are broken in the states and transitions of a process.
use Rattle.std.specs.Prelude.{◌++◌, ℕ, List, Option}
use Rattle.build_process.specs.Bodies.{bodies_faults}
use Rattle.build_flow.specs.Beginnings.{beginnings}
use Rattle.build_flow.specs.Ends.{ends_faults}
use Rattle.build_flow.specs.Reach.{AreReached}
use Rattle.build_flow.specs.Stays.{stay_faults}
use Rattle.build_names.specs.Faults.{Diagnostic, Notes}
use Rattle.build_states.specs.States.{process_faults}
use Rattle.sdl_tree.specs.Tree.{ProcessDefinition}
use Rattle.build_process.specs.ProcessScope.{ProcessScope, for_stimuli, for_transitions}

-- those of its transitions: of their statements, NoEnd at a path without an end, and NoState at a `-` that the start
-- reaches, where the joins that it reaches have these names
abbrev pub flow_faults : ProcessScope → ProcessDefinition → List (List ℕ) → List Diagnostic
flow_faults around process names =
    bodies_faults (for_transitions around) process
    ++ (ends_faults process ++ stay_faults (beginnings process) names)

-- and those of what its states say
abbrev pub body_faults : ProcessScope → ProcessDefinition → List (List ℕ) → List Diagnostic
body_faults around process names =
    process_faults (for_stimuli around) process ++ flow_faults around process names

-- each fault of its transitions is noted in between
pub record NotesFlow (around : ProcessScope) (process : ProcessDefinition) (old new : Option Diagnostic) : Type 0 where
  pub names : List (List ℕ)
  pub are_reached : AreReached (beginnings process) names
  pub noted : Notes old new (flow_faults around process names)

-- Each fault of its states and transitions is noted in between.
pub record NotesBody (around : ProcessScope) (process : ProcessDefinition) (old new : Option Diagnostic) : Type 0 where
  pub names : List (List ℕ)
  pub are_reached : AreReached (beginnings process) names
  pub noted : Notes old new (body_faults around process names)
