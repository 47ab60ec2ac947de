use Rattle.std.proofs.Common.{◌≡◌, ◌-◌, map}
use Rattle.parse_expressions.specs.Reading.{another, separated, repeated_from}
use Rattle.parse_expressions.proofs.lists.separated.Given as goal

abbrev pub invariant-loop-turn : goal.invariant-loop-turn
invariant-loop-turn g l =
    separated (g.A.Production.reads l.at) l.fn.cursor
    ≡ repeated_from (another (g.A.Production.reads l.at)) (l._turn-end - l._turn) (map g.A.Production.value l.found.items) l.cursor
