use Rattle.build_routes.specs.Valid.{AreValid}
use Rattle.build_routes.proofs.valid.valid_sets.Given as goal

abbrev pub invariant-loop-number : goal.invariant-loop-number
invariant-loop-number l = AreValid l.network l.number l.valid.items
