use Rattle.std.proofs.Common.{◌≡◌, All, take}
use Rattle.settle_checks.specs.Routes.{IsRight}
use Rattle.settle_checks.proofs.summing.routes.are_right.Given as goal

abbrev pub invariant-loop-one : goal.invariant-loop-one
invariant-loop-one l =
    record {
      same : l.first ≡ l.initial.first;
      right : All (IsRight l.system l.records) (take l.one-index l.routed);
    }
