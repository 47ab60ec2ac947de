use Rattle.std.proofs.Common.{◌≡◌, ◌-◌, map}
use Rattle.parse_expressions.specs.Reading.{repeated, repeated_from}
use Rattle.parse_expressions.proofs.lists.repeated.Given as goal

abbrev pub invariant-loop-turn : goal.invariant-loop-turn
invariant-loop-turn g l =
    repeated (g.A.Perhaps.reads l.at) l.fn.cursor ≡ repeated_from (g.A.Perhaps.reads l.at) (l._turn-end - l._turn) (map g.A.Perhaps.value l.found.items) l.cursor
