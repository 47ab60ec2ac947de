use Rattle.std.proofs.Common.{◌≡◌, ◌++◌, take}
use Rattle.std.specs.Prelude.{map}
use Rattle.settle_checks.specs.Summary.{child_of}
use Rattle.settle_checks.proofs.summing.made.add_children.Given as goal

abbrev pub invariant-loop-birth : goal.invariant-loop-birth
invariant-loop-birth l =
    l.made.items ≡ l.initial.made.items ++ map (child_of l.creator) (take l.birth-index l.births)
