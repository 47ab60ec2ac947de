use Rattle.std.proofs.Common.{◌≡◌}
use Rattle.build_routes.specs.Each.{ForSomeBelow}
use Rattle.build_routes.proofs.named.is_among.Given as goal

abbrev pub invariant-loop-id : goal.invariant-loop-id
invariant-loop-id l = ForSomeBelow l.ids l.id-index (λ j path. path.0 ≡ l.number) → ⊥
