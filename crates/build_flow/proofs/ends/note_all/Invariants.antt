use Rattle.std.proofs.Common.{flat_map, take}
use Rattle.build_names.specs.Faults.{Notes}
use Rattle.build_flow.specs.Ends.{beginning_faults}
use Rattle.build_flow.specs.Listed.{beginnings_listed, texts}
use Rattle.build_flow.proofs.ends.note_all.Given as goal

abbrev pub invariant-loop-beginning : goal.invariant-loop-beginning
invariant-loop-beginning l =
    Notes l.initial.faults l.faults
    (flat_map (beginning_faults (texts l.joins)) (beginnings_listed (take l.beginning-index l.beginnings)))
