use Rattle.std.proofs.Common.{◌≡◌, [], length, rules, subst, true}
use Rattle.std.specs.Prelude.{◌↔◌}
use Rattle.std.specs.VecDeque.{deque_len}
use Rattle.run_order.proofs.Reading.{empty_by}
use Rattle.run_order.proofs.outbox.Outbox.is_empty.Goals as goal
use Rattle.run_order.specs.Outbox.{PendingList}

pub returns : goal.returns
returns c =
    let list = c.self.inside.list in
    let counted : deque_len list ≡ length list.items = search rules in
    subst (λ (all : PendingList). (c.is_empty.result ≡ true) ↔ (all ≡ [])) c.self.view_is
    (empty_by c.is_empty.result (deque_len list) list.items c.is_empty.ensures counted)
