-- The record has the number.
use Rattle.std.proofs.Common.{◌∙◌, ◌<◌, ◌-◌, arith, length, subst, sym}
use Rattle.settle_checks.proofs.TargetLemmas.{process_is}
use Rattle.settle_checks.specs.Events.{IsProcessOf}
use Rattle.settle_checks.proofs.targets.process_of.Goals as goal

pub returns-then-pid-number : goal.returns-then-pid-number
returns-then-pid-number c =
    let records = c.args.records.now in
    let item = c.index-records-end.result in
    let within : c.min-end.result - 1 - c.loop-back.back < length records =
    omega (arith, c.min-end.ensures, c.loop-back-test.true) in
    subst (λ p. IsProcessOf records c.args.number p) (sym c.process.ensures)
    (process_is records (c.min-end.result - 1 - c.loop-back.back) item c.args.number within c.index-records-end.is
    (sym c.pid.ensures ∙ c.if-pid-number.true))
