use Rattle.std.proofs.Common.{◌≡◌, map, take}
use Rattle.build_names.specs.Faults.{Notes}
use Rattle.build_states.specs.Context.{context_of}
use Rattle.build_states.specs.Listed.{reading_value}
use Rattle.build_states.specs.Reading.{body_faults, body_read}
use Rattle.sdl_tree.specs.Views.{body_part_value}
use Rattle.build_states.proofs.stimuli.reading.read_body.Given as goal

abbrev pub invariant-loop-part : goal.invariant-loop-part
invariant-loop-part l = record {
  read : reading_value l.reading ≡ body_read (context_of l.context) (map body_part_value (take l.part-index l.body));
  noted : Notes l.initial.faults l.faults
      (body_faults (context_of l.context) (map body_part_value (take l.part-index l.body)));
}
