use Rattle.std.proofs.Common.{◌≡◌, take}
use Rattle.build_states.specs.Outlined.{cursor_behind}
use Rattle.build_states.proofs.chosen.chosen.Given as goal

abbrev pub invariant-loop-turn : goal.invariant-loop-turn
invariant-loop-turn l =
    record { from = l.from; parts = l.parts.items } ≡ cursor_behind l.stars (take l.turn-index l.turns)
