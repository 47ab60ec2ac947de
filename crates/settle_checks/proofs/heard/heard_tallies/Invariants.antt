use Rattle.std.proofs.Common.{map, take}
use Rattle.settle_checks.specs.Outputs.{AreTallied, outline_to}
use Rattle.settle_checks.proofs.heard.heard_tallies.Given as goal

abbrev pub invariant-loop-target : goal.invariant-loop-target
invariant-loop-target l =
    AreTallied (map outline_to (take l.target-index l.targets)) l.row.items
