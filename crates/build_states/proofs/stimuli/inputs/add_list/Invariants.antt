use Rattle.std.proofs.Common.{◌≡◌, ◌++◌, map, take}
use Rattle.build_names.specs.Faults.{Notes}
use Rattle.build_states.specs.Context.{context_of}
use Rattle.build_states.specs.Faulty.{list_faults}
use Rattle.build_states.specs.Listed.{mentions_listed}
use Rattle.build_states.specs.Mentions.{list_mentions}
use Rattle.sdl_tree.specs.Views.{input_value}
use Rattle.build_states.proofs.stimuli.inputs.add_list.Given as goal

abbrev pub invariant-loop-input : goal.invariant-loop-input
invariant-loop-input l = record {
  read : mentions_listed l.mentions.items ≡ mentions_listed l.initial.mentions.items
      ++ list_mentions (context_of l.context) l.manner l.begin (map input_value (take l.input-index l.inputs));
  noted : Notes l.initial.faults l.faults
      (list_faults (context_of l.context) (map input_value (take l.input-index l.inputs)));
}
