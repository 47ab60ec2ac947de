use Rattle.std.proofs.Common.{flat_map, map, take}
use Rattle.build_names.specs.Faults.{Notes}
use Rattle.build_states.specs.States.{left_out_faults}
use Rattle.sdl_tree.specs.Views.{body_part_value}
use Rattle.build_states.specs.Tabled.{is_state}
use Rattle.build_states.proofs.left_out.note_left_out.Given as goal

abbrev pub invariant-loop-part : goal.invariant-loop-part
invariant-loop-part l = Notes l.initial.faults l.faults
    (flat_map (left_out_faults (is_state l.states)) (map body_part_value (take l.part-index l.body)))
