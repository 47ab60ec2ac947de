-- A signal more is in its row.
use Rattle.std.proofs.Common.{◌++◌, ◌∷◌, ◌∙◌, [], ap, sym}
use Rattle.view_timeline.proofs.RowLemmas.{row-begins, row-pushed}
use Rattle.view_timeline.specs.declared.rows.Row.{Row}
use Rattle.view_timeline.proofs.rows.Rows.put.Goals as goal

pub returns-in-Some : goal.returns-in-Some
returns-in-Some c =
    let row = c.in-Some.row.now in
    let now : Row = record { signals = c.push_back.new.self } in
    row-pushed c.args.self.now.rows (c.get_mut.follows.lender now) c.args.channel row now c.in-Some.ensures.value
    (c.get_mut.follows.holds now).3 c.args.sent c.in_ok-push_back.ensures.items

pub returns : goal.returns
returns c =
    row-begins c.args.self.now.rows c.get_mut.follows.lender-at-none c.insert.new.self c.args.channel
    (record { signals = c.push_back-2.new.self }) c.args.sent (sym c.in_default.ensures.value)
    c.get_mut.follows.holds-at-none c.in_ok-insert.ensures.updates.0
    (c.in_ok-push_back-2.ensures.items ∙ ap (λ signals. signals ++ c.args.sent ∷ []) c.new-signals.ensures.items)
