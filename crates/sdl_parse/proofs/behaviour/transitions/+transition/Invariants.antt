use Rattle.std.proofs.Common.{◌≡◌, ◌-◌, ◌+◌, ◌*◌, map}
use Rattle.parse_expressions.proofs.Grammar.{statement_value}
use Rattle.sdl_parse.specs.Transitions.{action, steps, steps_from}
use Rattle.sdl_parse.proofs.behaviour.transitions.+transition.Given as goal

abbrev pub decreases-transition : goal.decreases-transition
decreases-transition l = 16 * l.depth + 4

abbrev pub decreases-action : goal.decreases-action
decreases-action l = 16 * l.depth + 2

abbrev pub decreases-decision : goal.decreases-decision
decreases-decision l = 16 * l.depth + 1

abbrev pub decreases-decision_around : goal.decreases-decision_around
decreases-decision_around l = 16 * l.depth + 9

abbrev pub decreases-part : goal.decreases-part
decreases-part l = 16 * l.at.depth + 6

abbrev pub decreases-otherwise : goal.decreases-otherwise
decreases-otherwise l = 16 * l.depth + 6

abbrev pub invariant-transition-loop-turn : goal.invariant-transition-loop-turn
invariant-transition-loop-turn l =
    steps (action l.depth) l.fn.cursor ≡ steps_from (action l.depth) (l._turn-end - l._turn) (map statement_value l.actions.items) l.cursor
