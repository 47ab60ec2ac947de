use Rattle.std.proofs.Common.{◌≡◌, take}
use Rattle.settle_checks.specs.Flows.{counted, is_with}
use Rattle.settle_checks.proofs.summing.flows.count_in.Given as goal

abbrev pub invariant-loop-flow : goal.invariant-loop-flow
invariant-loop-flow l =
    l.count ≡ counted (is_with l.number) (take l.flow-index l.flows)
