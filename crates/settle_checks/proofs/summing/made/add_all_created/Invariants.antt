use Rattle.std.proofs.Common.{◌≡◌, ◌++◌, take}
use Rattle.std.specs.List.{flat_map}
use Rattle.settle_meaning.specs.Identities.{created_in}
use Rattle.settle_checks.proofs.summing.made.add_all_created.Given as goal

abbrev pub invariant-loop-k : goal.invariant-loop-k
invariant-loop-k l =
    l.made.items ≡ l.initial.made.items ++ flat_map created_in (take l.k l.records)
