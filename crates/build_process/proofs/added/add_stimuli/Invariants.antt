use Rattle.std.proofs.Common.{◌++◌, List, Option, flat_map, map, take}
use Rattle.build_process.specs.Added.{Holds}
use Rattle.build_process.specs.Bodies.{bodies_among, faults_among}
use Rattle.build_flow.specs.Beginnings.{stimulus_beginnings}
use Rattle.build_statements.specs.Contexts.{context_of}
use Rattle.build_names.specs.Faults.{Notes}
use Rattle.sdl_system.specs.Body.{Body}
use Rattle.sdl_tree.specs.Views.{stimulus_value}
use Rattle.build_process.proofs.added.add_stimuli.Given as goal

abbrev pub invariant-loop-stimulus : goal.invariant-loop-stimulus
invariant-loop-stimulus l = record {
  added : (found : List (Option Body)) → Holds l.initial.added found → Holds l.added (found ++ bodies_among
      (context_of l.context) (flat_map stimulus_beginnings (map stimulus_value (take l.stimulus-index l.stimuli))));
  noted : Notes l.initial.faults l.faults (faults_among (context_of l.context)
      (flat_map stimulus_beginnings (map stimulus_value (take l.stimulus-index l.stimuli))));
}
