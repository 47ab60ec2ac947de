use Rattle.std.proofs.Common.{◌≡◌, ◌++◌, map}
use Rattle.sdl_failures.proofs.replayed.create.variables_from.Given as goal

abbrev pub invariant-loop-variable : goal.invariant-loop-variable
invariant-loop-variable l = l.list.items ≡ l.initial.list.items ++ map (λ x. x.now.initial) l.yielded
