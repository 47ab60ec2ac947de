use Rattle.std.proofs.Common.{◌≡◌, ◌++◌, map, take}
use Rattle.settle_checks.specs.Crossings.{crossing_in}
use Rattle.settle_checks.proofs.summing.crossings.add_taken.Given as goal

abbrev pub invariant-loop-flow : goal.invariant-loop-flow
invariant-loop-flow l =
    l.all.items ≡ l.initial.all.items ++ map (crossing_in l.to) (take l.flow-index l.flows)
