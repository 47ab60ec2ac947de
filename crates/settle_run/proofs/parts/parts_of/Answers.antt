-- One instance more.
use Rattle.std.proofs.Common.{◌≡◌, ◌∙◌, [], ◌∷◌, ◌++◌, List, ap, subst, sym}
use Rattle.std.proofs.lemmas.Iterator.Adapters.{YieldsList-from_vec}
use Rattle.std.proofs.lemmas.Iterator.Consumers.{YieldsList-end}
use Rattle.port_model.specs.Ends.{OwnerState}
use Rattle.port_model.specs.declared.values.value.Value.{Value}
use Rattle.run_record.specs.Record.{RecordValue}
use Rattle.settle_closing.specs.Left.{ClosingState, IsLeftOfOne}
use Rattle.settle_closing.specs.PortThen.{then_of}
use Rattle.settle_run.proofs.CourseLemmas.{all_yielded}
use Rattle.settle_run.proofs.PartLemmas.{columns_more, columns_none, parts_more, parts_none, same_flags}
use Rattle.settle_run.specs.Parts.{AreColumnsOf}
use Rattle.threads_instance.specs.declared.doings.Child.{Child}
use Rattle.threads_ports.specs.Peers.{PeersState}
use Rattle.settle_run.proofs.parts.parts_of.Goals as goal

pub loop-closing-init : goal.loop-closing-init
loop-closing-init g c = (
  parts_none g.J.Run.system g.J.Run.ports c.args.whole c.args.environment c.in_ok-records.records.items
      c.in_ok-gifts.gifts.items c.in_ok-inboxes.inboxes.items c.in_ok-thens.thens.items c.push.new.self.items
      c.in_ok-records.ensures.items c.in_ok-gifts.ensures.items c.in_ok-inboxes.ensures.items c.in_ok-thens.ensures.items
      (c.in_ok-push.ensures.items ∙ ap (λ l. l ++ c.args.environment ∷ []) c.new-places.ensures.items),
  columns_none c.args.environment c.in_ok-records.records.items c.in_ok-logs.logs.items c.in_ok-inboxes.inboxes.items
      c.push.new.self.items c.in_ok-records.ensures.items c.in_ok-logs.ensures.items c.in_ok-inboxes.ensures.items
      (c.in_ok-push.ensures.items ∙ ap (λ l. l ++ c.args.environment ∷ []) c.new-places.ensures.items),
)

pub loop-closing-preserved : goal.loop-closing-preserved
loop-closing-preserved g c =
    let named = g.J.Run.system in
    let ports = g.J.Run.ports in
    let closing = c.in-Some.closing in
    let left = c.into_left-trace.result in
    let is = c.into_left-trace.ensures in
    let whole : closing.whole ≡ c.args.whole = sym c.whole.ensures ∙ same_flags c.whole.result c.args.whole c.if-whole.false in
    let of_closing : IsLeftOfOne named ports c.args.whole closing.trace closing.owner closing.peers closing.given
    closing.children =
    subst (λ b. IsLeftOfOne named ports b closing.trace closing.owner closing.peers closing.given closing.children) whole
    c.is_left.ensures in
    let here : IsLeftOfOne named ports c.args.whole left.trace left.inbox.owner left.peers left.gifts.given
    left.gifts.children.items =
    subst (λ (t : RecordValue). IsLeftOfOne named ports c.args.whole t left.inbox.owner left.peers left.gifts.given
    left.gifts.children.items) (sym is.trace)
    (subst (λ (o : OwnerState). IsLeftOfOne named ports c.args.whole closing.trace o left.peers left.gifts.given
    left.gifts.children.items) (sym is.owner)
    (subst (λ (p : PeersState). IsLeftOfOne named ports c.args.whole closing.trace closing.owner p left.gifts.given
    left.gifts.children.items) (sym is.peers)
    (subst (λ (given : List Value). IsLeftOfOne named ports c.args.whole closing.trace closing.owner closing.peers given
    left.gifts.children.items) (sym is.given)
    (subst (λ (children : List Child). IsLeftOfOne named ports c.args.whole closing.trace closing.owner closing.peers
    closing.given children) (sym is.children) of_closing)))) in (
      parts_more named ports c.args.whole c.args.environment c.loop-closing.records.items c.loop-closing.gifts.items
          c.loop-closing.inboxes.items c.loop-closing.thens.items c.loop-closing.places.items c.loop-closing.invariant.0
          left.trace left.gifts left.inbox c.port_then.result left.peers here
          (c.port_then.ensures ∙ ap then_of (sym is.owner))
          c.push-in-loop-closing-2.new.self.items c.push-in-loop-closing-3.new.self.items
          c.push-in-loop-closing-5.new.self.items c.push-in-loop-closing.new.self.items
          c.push-in-loop-closing-6.new.self.items c.in_ok-push-3.ensures.items c.in_ok-push-4.ensures.items
          c.in_ok-push-6.ensures.items c.in_ok-push-2.ensures.items c.in_ok-push-7.ensures.items,
      columns_more c.args.environment c.loop-closing.yielded closing c.loop-closing.records.items
          c.push-in-loop-closing-2.new.self.items c.loop-closing.logs.items c.push-in-loop-closing-4.new.self.items
          c.loop-closing.inboxes.items c.push-in-loop-closing-5.new.self.items c.loop-closing.places.items
          c.push-in-loop-closing-6.new.self.items left.trace left.course left.inbox left.peers
          c.loop-closing.invariant.1 is.trace is.course is.owner is.peers c.in_ok-push-3.ensures.items
          c.in_ok-push-5.ensures.items c.in_ok-push-6.ensures.items c.in_ok-push-7.ensures.items,
    )

pub returns-clause-columns : goal.returns-clause-columns
returns-clause-columns g c =
    let closings = c.args.closings.items in
    let started = c.into_iter-closing-iterator.ensures.into_iter_gives in
    let end = YieldsList-end (YieldsList-from_vec closings started.0 (started.1 ∙ c.args.closings.ok.0))
    c.loop-closing.yielded c.loop-closing.closing-iterator c.loop-closing.yielded_by c.next.result c.next.new.self
    c.in-None.is c.next.ensures.steps in
    subst (λ (l : List ClosingState). AreColumnsOf c.args.environment l c.loop-closing.records.items
    c.loop-closing.logs.items c.loop-closing.inboxes.items c.loop-closing.places.items)
    (sym (all_yielded c.loop-closing.yielded) ∙ end.0) c.loop-closing.invariant.1
