-- The first signal of a row is taken, or nothing changes.
use Rattle.std.proofs.Common.{◌∙◌, ap, arith, false, true, refl, sym}
use Rattle.view_timeline.specs.Rows.{IsFirst, row_of}
use Rattle.view_timeline.proofs.Nexts.{if-none-always, no-item}
use Rattle.view_timeline.proofs.RowLemmas.{row-differs, row-empty, row-none, row-others, row-popped, same-front, values-differ, values-same}
use Rattle.view_timeline.specs.declared.rows.Row.{Row}
use Rattle.view_timeline.specs.declared.rows.Sent.{Sent}
use Rattle.view_timeline.proofs.rows.Rows.take.Goals as goal

pub returns-clause-first : goal.returns-clause-first
returns-clause-first c =
    let row = c.in_ok-row.row.now in
    let now : Row = record { signals = c.pop_front.new.self } in
    row-popped c.args.self.now.rows (c.get_mut.follows.lender now) c.args.channel row now c.in_ok-row.ensures.value
    (c.get_mut.follows.holds now).3 c.in_ok-first-2.first c.args.values.now c.in_ok-first-2.ensures.items
    (sym (ap (λ (one : Sent). one.values.now)
    (same-front row.signals.items c.pop_front.new.self.items c.in_ok-first.first.now c.in_ok-first-2.first
    c.in_ok-first.ensures.lookup c.in_ok-first-2.ensures.items))
    ∙ values-same c.in_ok-first.first.now.values.now c.args.values.now false c.if-ne.ensures refl)

pub returns-clause-others : goal.returns-clause-others
returns-clause-others c =
    let row = c.in_ok-row.row.now in
    let now : Row = record { signals = c.pop_front.new.self } in
    row-others c.args.self.now.rows (c.get_mut.follows.lender now) c.args.channel row now c.in_ok-row.ensures.value
    (c.get_mut.follows.holds now).3

-- ---- what is missing

pub returns-in_err-row-clause-missing : goal.returns-in_err-row-clause-missing
returns-in_err-row-clause-missing c =
    if-none-always c.from_residual.result (IsFirst c.args.values.now (row_of c.args.self.now.rows c.args.channel) → ⊥)
    (row-none c.args.self.now.rows c.args.channel (sym c.in_err-row.ensures.value) c.args.values.now)

pub returns-in_err-first-clause-missing : goal.returns-in_err-first-clause-missing
returns-in_err-first-clause-missing c =
    let row = c.in_ok-row.row.now in
    if-none-always c.from_residual-in_err-first.result
    (IsFirst c.args.values.now (row_of c.args.self.now.rows c.args.channel) → ⊥)
    (row-empty c.args.self.now.rows (c.get_mut.follows.lender row) c.args.channel row row c.in_ok-row.ensures.value
    (c.get_mut.follows.holds row).3
    (no-item row.signals.items row.signals.items 0 refl c.in_err-first.ensures.item) c.args.values.now)

pub returns-then-ne-clause-missing : goal.returns-then-ne-clause-missing
returns-then-ne-clause-missing c =
    let row = c.in_ok-row.row.now in
    row-differs c.args.self.now.rows (c.get_mut.follows.lender row) c.args.channel row row c.in_ok-row.ensures.value
    (c.get_mut.follows.holds row).3 c.in_ok-first.first.now c.in_ok-first.ensures.lookup c.args.values.now
    (values-differ c.in_ok-first.first.now.values.now c.args.values.now true c.if-ne.ensures refl)

pub returns-in_err-first-2-clause-missing : goal.returns-in_err-first-2-clause-missing
returns-in_err-first-2-clause-missing c =
    let some = c.in_ok-first.ensures.variant.0 refl in
    let no : ⊥ = omega (arith, some, c.in_err-first-2.ensures.cases.0) in
    absurd no
