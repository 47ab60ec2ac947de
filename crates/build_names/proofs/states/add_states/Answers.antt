use Rattle.std.proofs.Common.{◌∙◌, ap, fold, map}
use Rattle.std.proofs.lemmas.List.{take_all}
use Rattle.build_names.specs.Labels.{names_listed}
use Rattle.build_names.specs.States.{with_new}
use Rattle.build_names.proofs.StateLemmas.{one-more}
use Rattle.sdl_tree.specs.Views.{name_value}
use Rattle.build_names.proofs.states.add_states.Goals as goal

pub loop-name-preserved : goal.loop-name-preserved
loop-name-preserved c = record {
  seen = c.in_ok-add_state.ensures.seen;
  states =
      one-more with_new _ _ _ c.args.names.now c.loop-name.name-index c.name-item.result c.loop-name-test.true
      c.name-item.is name_value c.loop-name.invariant.states c.in_ok-add_state.ensures.states;
}

pub returns-clause-seen : goal.returns-clause-seen
returns-clause-seen c = c.loop-name.invariant.seen

pub returns-clause-states : goal.returns-clause-states
returns-clause-states c =
    c.loop-name.invariant.states
    ∙ ap (λ l. fold with_new (names_listed c.args.states.now.items) (map name_value l))
    (take_all c.loop-name.name-index c.args.names.now c.loop-name-test.false)
