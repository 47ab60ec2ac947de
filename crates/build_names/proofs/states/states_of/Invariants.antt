use Rattle.std.proofs.Common.{◌≡◌, flat_map, map, take}
use Rattle.build_names.specs.Labels.{names_listed}
use Rattle.build_names.specs.States.{different, part_states, words_listed}
use Rattle.sdl_tree.specs.Views.{body_part_value}
use Rattle.build_names.proofs.states.states_of.Given as goal

abbrev pub invariant-loop-part : goal.invariant-loop-part
invariant-loop-part l = record {
  seen : words_listed l.seen ≡ names_listed l.states.items;
  states :
      names_listed l.states.items
      ≡ different (flat_map part_states (map body_part_value (take l.part-index l.part-items)));
}
