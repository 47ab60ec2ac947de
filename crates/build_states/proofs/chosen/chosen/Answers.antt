use Rattle.std.proofs.Common.{◌∙◌, ◌++◌, ap, arith}
use Rattle.std.proofs.lemmas.List.{take_all}
use Rattle.build_states.specs.Outlined.{cursor_behind, with_left}
use Rattle.build_states.proofs.chosen.chosen.Goals as goal

pub returns : goal.returns
returns c =
    let stars = c.args.stars.now in
    c.in_ok-extend_from_slice-2.ensures.items
    ∙ ap (λ list. c.loop-turn.parts.items ++ list) c.stars_between-2.ensures
    ∙ ap (with_left stars) c.loop-turn.invariant
    ∙ ap (λ turns. with_left stars (cursor_behind stars turns))
    (take_all c.loop-turn.turn-index c.args.turns.now (omega (arith, c.loop-turn-test.false)))
