use Rattle.std.proofs.Common.{◌≡◌, take}
use Rattle.std.specs.List.{AllZip}
use Rattle.settle_checks.specs.Account.{IsRight}
use Rattle.settle_meaning.specs.Puts.{signals_of}
use Rattle.settle_checks.proofs.account.routing.signals_right.Given as goal

abbrev pub invariant-loop-line : goal.invariant-loop-line
invariant-loop-line l =
    record {
      same : l.first ≡ l.initial.first;
      right : AllZip (IsRight l.system l.records) (signals_of (take l.line-index l.lines)) (take l.place l.targets);
    }
