use Rattle.std.proofs.Common.{◌≡◌}
use Rattle.build_routes.specs.Each.{ForSome, ForSomeBelow}
use Rattle.build_routes.proofs.named.is_named.Given as goal

abbrev pub invariant-loop-connect : goal.invariant-loop-connect
invariant-loop-connect l = ForSomeBelow l.connects l.connect-index (λ k connect. ForSome connect.inner.items (λ j path. path.0 ≡ l.number)) → ⊥
