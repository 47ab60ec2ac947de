-- One port more.
use Rattle.std.proofs.Common.{◌≡◌, ◌∙◌, ◌<◌, ◌+◌, ap, get_or, length, rules, subst, sym, List, ℕ}
use Rattle.std.proofs.lemmas.Iterator.Adapters.{YieldsList-from_vec}
use Rattle.std.proofs.lemmas.Iterator.Consumers.{YieldsList-turn}
use Rattle.std.proofs.lemmas.List.{length_push}
use Rattle.run_record.specs.Record.{RecordValue}
use Rattle.settle_checks.proofs.CountLemmas.{owner_next}
use Rattle.settle_checks.proofs.GatherLemmas.{gathering_next}
use Rattle.settle_checks.proofs.AccountLists.{at_push}
use Rattle.settle_checks.specs.Account.{AllAt}
use Rattle.settle_checks.specs.Gatherings.{IsGatheringOf}
use Rattle.settle_checks.specs.Gathering.{GatheringState}
use Rattle.settle_checks.proofs.account.counting.gatherings_of.Goals as goal

pub gathering_of-requires-clause-owner : goal.gathering_of-requires-clause-owner
gathering_of-requires-clause-owner g c =
    let inboxes = c.args.inboxes.items in
    let started = c.into_iter-inbox-iterator.ensures.into_iter_gives in
    let turn = YieldsList-turn (YieldsList-from_vec inboxes started.0 (started.1 ∙ c.args.inboxes.ok.0))
    c.loop-inbox.yielded c.loop-inbox.inbox-iterator c.loop-inbox.yielded_by c.next.result c.next.new.self
    c.in-Some.inbox c.in-Some.is c.next.ensures.steps in
    (owner_next g.K.Fixed.owners g.J.Run.ports c.args.records.now inboxes c.loop-inbox.at (length c.loop-inbox.yielded)
    c.index-records-index.result c.in-Some.inbox c.requires c.loop-inbox.invariant.at turn.0 turn.1
    (search rules) c.index-records-index.is).owner

pub gathering_of-requires-clause-port : goal.gathering_of-requires-clause-port
gathering_of-requires-clause-port g c =
    let inboxes = c.args.inboxes.items in
    let started = c.into_iter-inbox-iterator.ensures.into_iter_gives in
    let turn = YieldsList-turn (YieldsList-from_vec inboxes started.0 (started.1 ∙ c.args.inboxes.ok.0))
    c.loop-inbox.yielded c.loop-inbox.inbox-iterator c.loop-inbox.yielded_by c.next.result c.next.new.self
    c.in-Some.inbox c.in-Some.is c.next.ensures.steps in
    (owner_next g.K.Fixed.owners g.J.Run.ports c.args.records.now inboxes c.loop-inbox.at (length c.loop-inbox.yielded)
    c.index-records-index.result c.in-Some.inbox c.requires c.loop-inbox.invariant.at turn.0 turn.1
    (search rules) c.index-records-index.is).port
    ∙ ap g.J.Run.ports (sym c.pid.ensures)

pub loop-inbox-preserved : goal.loop-inbox-preserved
loop-inbox-preserved g c =
    let records = c.args.records.now in
    let all = c.loop-inbox.all.items in
    let one = c.in_ok-gathering_of.field-0 in
    let inv = c.loop-inbox.invariant in
    let next : c.in-Some-checked_add.next ≡ c.loop-inbox.at + 1 = search rules in
    record {
      at = next ∙ ap (λ n. n + 1) inv.at ∙ sym (length_push c.loop-inbox.yielded c.in-Some.inbox);
      long = ap length c.in_ok-push.ensures.items ∙ length_push all one ∙ ap (λ n. n + 1) inv.long
          ∙ sym (length_push c.loop-inbox.yielded c.in-Some.inbox);
      each = let Is : ℕ → GatheringState → Type 0 = λ k it. (trace : RecordValue) → k < length records
          → trace ≡ get_or records k trace → IsGatheringOf k trace it in
          subst (λ (l : List GatheringState). AllAt Is l) (sym c.in_ok-push.ensures.items)
          (at_push Is all one inv.each
          (gathering_next records all c.loop-inbox.at c.pid.result c.index-records-index.result one
          (inv.at ∙ sym inv.long) c.index-records-index.is c.pid.ensures c.in_ok-gathering_of.ensures.at
          c.in_ok-gathering_of.ensures.number));
    }
