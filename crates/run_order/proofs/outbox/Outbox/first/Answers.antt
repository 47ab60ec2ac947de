use Rattle.std.proofs.Common.{◌≡◌, ◌∷◌, [], MatchOption, subst}
use Rattle.std.specs.Borrow.{Bor}
use Rattle.run_order.proofs.Reading.{first_by}
use Rattle.run_order.proofs.outbox.Outbox.first.Goals as goal
use Rattle.run_order.specs.Outbox.{PendingList}
use Rattle.run_order.specs.declared.pending.Pending.{Pending}

pub returns : goal.returns
returns c =
    subst
    (λ (all : PendingList). MatchOption c.front.result (all ≡ []) (λ (first : Bor Pending). (later : PendingList)
    × (all ≡ first.now ∷ later))) c.self.view_is
    (first_by c.self.inside.list.items c.front.result c.front.ensures.item.3)
