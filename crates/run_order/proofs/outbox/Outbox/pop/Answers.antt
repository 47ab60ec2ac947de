use Rattle.std.proofs.Common.{◌≡◌, ◌∷◌, [], MatchOption, subst}
use Rattle.run_order.proofs.Reading.{popped_by}
use Rattle.run_order.proofs.outbox.Outbox.pop.Goals as goal
use Rattle.run_order.specs.Outbox.{PendingList}
use Rattle.run_order.specs.declared.pending.Pending.{Pending}

pub returns : goal.returns
returns c =
    subst
    (λ (all : PendingList). MatchOption c.pop_front.result (all ≡ []) (λ (first : Pending). all
    ≡ first ∷ c.pop_front.new.self.items)) c.self.view_is
    (popped_by c.self.inside.list.items c.pop_front.new.self.items c.pop_front.result c.pop_front.ensures.items
    c.pop_front.ensures.rest)
