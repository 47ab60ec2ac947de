-- Why there is no process with a text.
use Rattle.std.specs.Prelude.{◌≡◌, List, [], None, Some, Contains, length, map}
use Rattle.build_process.specs.Bodies.{bodies_of}
use Rattle.build_process.specs.Numbered.{AreNumbered}
use Rattle.build_flow.specs.Beginnings.{beginnings}
use Rattle.build_flow.specs.Ends.{ends_faults}
use Rattle.build_states.specs.States.{table_named}
use Rattle.build_states.specs.Reading.{process_read}
use Rattle.sdl_system.specs.Body.{Body}
use Rattle.sdl_system.specs.declared.id.NodeId.{NodeId}
use Rattle.build_tables.specs.Linked.{Lacks}
use Rattle.sdl_tree.specs.Tree.{ProcessDefinition}
use Rattle.sdl_tree.specs.Words.{Spot}
use Rattle.build_process.specs.ProcessScope.{ProcessScope, for_stimuli, for_transitions}

pub data IsRefused (around : ProcessScope) (process : ProcessDefinition) : Type 0 where
  -- a transition has no body or a path without an end, or the labels aren't numbered
  no_flow : ((bodies : List Body) → bodies_of (for_transitions around) process ≡ map Some bodies
      → ends_faults process ≡ [] → AreNumbered (for_transitions around) process → ⊥) → IsRefused around process
  -- a condition comes to nothing
  no_condition : Contains (process_read (for_stimuli around) process).numbering.conditions None
      → IsRefused around process
  -- a state begins a transition that isn't one of the process
  no_entry : (name : Spot) (entries : List NodeId) → length entries ≡ length (beginnings process)
      → Lacks entries (table_named (process_read (for_stimuli around) process).parts name) → IsRefused around process
