use Rattle.std.proofs.Common.{◌≡◌, ◌++◌, map, take}
use Rattle.build_names.specs.Faults.{Notes}
use Rattle.build_states.specs.Context.{context_of}
use Rattle.build_states.specs.Faulty.{saved_faults}
use Rattle.build_states.specs.Listed.{mentions_listed}
use Rattle.build_states.specs.Mentions.{saved_mentions}
use Rattle.sdl_tree.specs.Tree.{SaveList}
use Rattle.sdl_tree.specs.Views.{item_value}
use Rattle.build_states.proofs.stimuli.saves.add_items.Given as goal

abbrev pub invariant-loop-item : goal.invariant-loop-item
invariant-loop-item l = record {
  read : mentions_listed l.mentions.items ≡ mentions_listed l.initial.mentions.items
      ++ saved_mentions (context_of l.context) (SaveList (map item_value (take l.item-index l.items)));
  noted : Notes l.initial.faults l.faults
      (saved_faults (context_of l.context) (SaveList (map item_value (take l.item-index l.items))));
}
