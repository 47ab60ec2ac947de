use Rattle.std.proofs.Common.{◌≡◌, fold, take}
use Rattle.build_names.specs.Labels.{names_listed}
use Rattle.build_names.specs.States.{with_new, words_listed}
use Rattle.sdl_tree.specs.Views.{names_value}
use Rattle.build_names.proofs.states.add_states.Given as goal

abbrev pub invariant-loop-name : goal.invariant-loop-name
invariant-loop-name l = record {
  seen : words_listed l.seen ≡ names_listed l.states.items;
  states :
      names_listed l.states.items
      ≡ fold with_new (names_listed l.initial.states.items) (names_value (take l.name-index l.names));
}
