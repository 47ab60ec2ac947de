-- Transitions with a path to their end without a terminator (Z.101: each path through a transition ends with a
-- terminator).
use Rattle.std.specs.Prelude.{ℕ, Bool, true, List, flat_map}
use Rattle.build_names.specs.Faults.{Diagnostic, fault_if}
use Rattle.build_names.specs.declared.faults.fault.Rule.TheVariants.{NoEnd}
use Rattle.sdl_tree.specs.Tree.{ProcessDefinition}
use Rattle.sdl_tree.specs.Words.{Spot}
use Rattle.build_flow.specs.Beginnings.{Beginning, beginnings}
use Rattle.build_flow.specs.Mentions.{is_named, process_joins}
use Rattle.build_flow.specs.Passing.{transition_passed}

-- paths enter at each label with one of the names
abbrev pub enters_named : List (List ℕ) → Spot → Bool
enters_named names label = is_named names label.text

-- NoEnd at the first word of a start, a stimulus or a connection with a path to its end without a terminator
abbrev pub beginning_faults : List (List ℕ) → Beginning → List Diagnostic
beginning_faults joins beginning =
    fault_if (transition_passed (enters_named joins) beginning.transition true) NoEnd beginning.word

-- Each such fault of a process, in the order of the text. Paths enter at each label that some join of the process
-- names.
abbrev pub ends_faults : ProcessDefinition → List Diagnostic
ends_faults process = flat_map (beginning_faults (process_joins process)) (beginnings process)
