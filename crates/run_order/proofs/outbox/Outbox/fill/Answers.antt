use Rattle.std.proofs.Common.{◌∙◌, ap, sym}
use Rattle.run_order.proofs.outbox.Outbox.fill.Goals as goal
use Rattle.run_order.specs.Pending.{behind_first}

pub returns-then-not-fits-clause-fit : goal.returns-then-not-fits-clause-fit
returns-then-not-fits-clause-fit c = sym c.if-not-fits.true ∙ c.in_ok-fits.ensures.fit

pub returns-clause-fit : goal.returns-clause-fit
returns-clause-fit c = sym c.if-not-fits.false ∙ c.in_ok-fits.ensures.fit

pub returns-clause-filled : goal.returns-clause-filled
returns-clause-filled c = λ yes.
    c.drop_inside.ensures ∙ ap behind_first (c.in_ok-fits.ensures.filled c.if-not-fits.false)
