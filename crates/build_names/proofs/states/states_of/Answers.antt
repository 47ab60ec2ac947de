use Rattle.std.proofs.Common.{◌∙◌, ap, flat_map, map, sym}
use Rattle.std.proofs.lemmas.List.{take_all}
use Rattle.build_names.specs.States.{different, part_states, with_new}
use Rattle.build_names.proofs.StateLemmas.{list-more}
use Rattle.sdl_tree.specs.Views.{body_part_value}
use Rattle.build_names.proofs.states.states_of.Goals as goal

pub loop-part-preserved : goal.loop-part-preserved
loop-part-preserved c = record {
  seen = c.in_ok-add_states.ensures.seen;
  states =
      list-more with_new _ _ _ c.deref-part-items.result.now c.loop-part.part-index c.part-item.result
      c.loop-part-test.true c.part-item.is part_states body_part_value _ c.named_states.ensures
      c.loop-part.invariant.states c.in_ok-add_states.ensures.states;
}

pub returns : goal.returns
returns c =
    c.loop-part.invariant.states
    ∙ ap (λ l. different (flat_map part_states (map body_part_value l)))
    (take_all c.loop-part.part-index c.deref-part-items.result.now c.loop-part-test.false
    ∙ c.deref-part-items.ensures.value)
