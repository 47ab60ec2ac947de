use Rattle.std.proofs.Common.{◌≡◌, drop, List}
use Rattle.settle_checks.specs.Account.{HaveSignals}
use Rattle.settle_checks.specs.Crossed.{IsHeardRest, heard_passes}
use Rattle.settle_checks.specs.Outputs.{targets_of}
use Rattle.settle_meaning.specs.Order.{times_heard}
use Rattle.settle_meaning.specs.Puts.{Heard}
use Rattle.settle_checks.proofs.account.hearing.passes_heard.Given as goal

abbrev pub invariant-loop-line : goal.invariant-loop-line
invariant-loop-line l =
    (heard : List Heard) → targets_of heard ≡ l.targets → HaveSignals heard l.lines
    → IsHeardRest (drop l.line-index l.lines) heard (heard_passes (times_heard l.lines) heard) l.hearing.place
    l.hearing.passes.items
