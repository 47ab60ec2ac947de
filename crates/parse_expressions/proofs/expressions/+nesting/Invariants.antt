use Rattle.std.proofs.Common.{◌≡◌, ◌+◌, ◌-◌, ◌*◌}
use Rattle.parse_expressions.proofs.Grammar.{expr_value, level, readers}
use Rattle.parse_expressions.proofs.LevelLemmas.{climb}
use Rattle.parse_expressions.proofs.expressions.+nesting.Given as goal

abbrev pub invariant-level-loop-loose : goal.invariant-level-loop-loose
invariant-level-loop-loose l =
    level (readers l.fn.at.depth) l.fn.at.loose l.fn.cursor
    ≡ climb (readers l.fn.at.depth) (l.loose - 1) (l.loose-end - l.loose) (expr_value l.read) l.cursor

abbrev pub decreases-level : goal.decreases-level
decreases-level l = 32 * l.at.depth + (2 * l.at.loose + 8)

abbrev pub decreases-link : goal.decreases-link
decreases-link l = 32 * l.at.depth + (2 * l.at.loose + 7)

abbrev pub decreases-signed : goal.decreases-signed
decreases-signed l = 32 * l.depth + 7

abbrev pub decreases-primary : goal.decreases-primary
decreases-primary l = 32 * l.depth + 6

abbrev pub decreases-parenthesized : goal.decreases-parenthesized
decreases-parenthesized l = 32 * l.depth + 4

abbrev pub decreases-active : goal.decreases-active
decreases-active l = 32 * l.depth + 4

abbrev pub decreases-inner_arguments : goal.decreases-inner_arguments
decreases-inner_arguments l = 32 * l.depth + 3

abbrev pub decreases-between_parentheses : goal.decreases-between_parentheses
decreases-between_parentheses l = 32 * l.depth + 23

abbrev pub decreases-active_timer : goal.decreases-active_timer
decreases-active_timer l = 32 * l.depth + 16
