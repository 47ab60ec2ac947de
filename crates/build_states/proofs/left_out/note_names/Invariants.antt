use Rattle.std.proofs.Common.{flat_map, take}
use Rattle.build_names.specs.Faults.{Notes}
use Rattle.build_states.specs.States.{unnamed_faults}
use Rattle.sdl_tree.specs.Views.{names_value}
use Rattle.build_states.specs.Tabled.{is_state}
use Rattle.build_states.proofs.left_out.note_names.Given as goal

abbrev pub invariant-loop-name : goal.invariant-loop-name
invariant-loop-name l = Notes l.initial.faults l.faults
    (flat_map (unnamed_faults (is_state l.states)) (names_value (take l.name-index l.names)))
