use Rattle.std.proofs.Common.{◌≡◌, ◌⊎◌, ◌↔◌, Contains}
use Rattle.build_routes.specs.Each.{ForSomeBelow}
use Rattle.build_routes.specs.Valid.{IsHeard}
use Rattle.build_routes.specs.declared.network.list.ListId.{ListId}
use Rattle.build_routes.proofs.valid.lists_to.Given as goal

abbrev pub invariant-loop-path : goal.invariant-loop-path
invariant-loop-path l = (list : ListId) → Contains l.lists.items list
    ↔ ((list ≡ l.process.named) ⊎ ((list ≡ l.process.timers) ⊎ ForSomeBelow l.paths l.path-index (λ n path. IsHeard l.id l.process path × (path.signals ≡ list))))
