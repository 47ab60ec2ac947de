use Rattle.std.proofs.Common.{◌≡◌}
use Rattle.run_semantics.specs.Instance.{parameters_from}
use Rattle.sdl_failures.proofs.replayed.create.parameters_from.Given as goal

abbrev pub invariant-loop-index : goal.invariant-loop-index
invariant-loop-index l = l.list.items ≡ parameters_from l.index l.values
