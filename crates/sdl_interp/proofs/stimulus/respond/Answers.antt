use Rattle.std.proofs.Common.{length, rules, sym, tests, ◌≡◌}
use Rattle.sdl_interp.proofs.Bodies.{has_table}
use Rattle.sdl_interp.proofs.SelectionLemmas.{none_listed, plain_selects}
use Rattle.sdl_interp.specs.Running.{known_by, seen}
use Rattle.sdl_interp.proofs.stimulus.respond.Goals as goal

pub returns-in_default-clause-ok : goal.returns-in_default-clause-ok
returns-in_default-clause-ok g c = λ d is.
    absurd (has_table c.args.core.now.process.now d.behaviour is.behaves.means c.args.state c.requires.inside
    (sym c.in_default.ensures))

pub take_by-requires-clause-selects : goal.take_by-requires-clause-selects
take_by-requires-clause-selects g c =
    let table = c.in-Some.table.now in
    let none : length table.conditions.items ≡ 0 = search (rules, tests) in
    plain_selects c.args.core.now.process.now table
    (known_by (seen g.P.Inbox.owning g.P.Inbox.since c.args.core.now)) (none_listed table.conditions.items none)
