use Rattle.std.proofs.Common.{◌≡◌, ◌++◌, take}
use Rattle.std.specs.List.{flat_map}
use Rattle.settle_checks.specs.Crossings.{crossing_out}
use Rattle.settle_checks.proofs.summing.crossings.add_sent.Given as goal

abbrev pub invariant-loop-flow : goal.invariant-loop-flow
invariant-loop-flow l =
    l.all.items ≡ l.initial.all.items ++ flat_map (crossing_out l.from) (take l.flow-index l.flows)
