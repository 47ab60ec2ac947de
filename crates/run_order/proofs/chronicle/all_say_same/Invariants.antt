use Rattle.std.proofs.Common.{take}
use Rattle.std.specs.List.{AllZip}
use Rattle.run_order.proofs.chronicle.all_say_same.Given as goal
use Rattle.run_order.specs.Comparing.{SaySame}

abbrev pub invariant-loop-place : goal.invariant-loop-place
invariant-loop-place l = AllZip SaySame (take l.place l.left) (take l.place l.right)
