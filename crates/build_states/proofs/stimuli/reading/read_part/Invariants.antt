use Rattle.std.proofs.Common.{◌≡◌, map, take}
use Rattle.build_names.specs.Faults.{Notes}
use Rattle.build_states.specs.Context.{context_of}
use Rattle.build_states.specs.Listed.{begun_value, numbering_value}
use Rattle.build_states.specs.Reading.{part_read, stimuli_faults}
use Rattle.sdl_tree.specs.Views.{states_value, stimulus_value}
use Rattle.build_states.proofs.stimuli.reading.read_part.Given as goal

abbrev pub invariant-loop-stimulus : goal.invariant-loop-stimulus
invariant-loop-stimulus l = record {
  read : begun_value l.numbering l.read
      ≡ part_read (context_of l.context) (numbering_value l.initial.numbering) (states_value l.part.states)
      (map stimulus_value (take l.stimulus-index l.part.stimuli.items));
  noted : Notes l.initial.faults l.faults
      (stimuli_faults (context_of l.context) (map stimulus_value (take l.stimulus-index l.part.stimuli.items)));
}
