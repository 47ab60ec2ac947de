use Rattle.build_routes.specs.Each.{ForSomeBelow}
use Rattle.build_routes.specs.SignalLists.{HasSignal}
use Rattle.build_routes.proofs.valid.is_in_some.Given as goal

abbrev pub invariant-loop-list : goal.invariant-loop-list
invariant-loop-list l = ForSomeBelow l.lists l.list-index (λ n list. HasSignal l.sets list l.signal) → ⊥
