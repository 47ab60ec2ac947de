use Rattle.std.proofs.Common.{All, take}
use Rattle.settle_checks.specs.Starts.{IsBornBy}
use Rattle.settle_checks.proofs.summing.starts.are_born.Given as goal

abbrev pub invariant-loop-birth : goal.invariant-loop-birth
invariant-loop-birth l =
    All (IsBornBy l.records l.creator) (take l.birth-index l.births)
