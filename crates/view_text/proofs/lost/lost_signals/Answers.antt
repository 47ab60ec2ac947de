use Rattle.std.proofs.Common.{◌∙◌, ◌++◌, ◌∷◌, [], ap, append-nil, if◌then◌else◌, map, subst, sym, take}
use Rattle.std.proofs.lemmas.List.{map-append}
use Rattle.view_text.proofs.Losing.{earlier-more, lost-all, lost-more, minus-none}
use Rattle.view_text.specs.Lost.{takes, untaken}
use Rattle.view_text.specs.Sending.{sending_value, sendings}
use Rattle.view_text.specs.Takes.{AreLeft}
use Rattle.view_text.specs.Walk.{all_steps}
use Rattle.view_text.proofs.lost.lost_signals.Goals.{then-not-branch+in_ok-push, else-not-branch}
use Rattle.view_text.proofs.lost.lost_signals.Goals as goal

pub loop-sending-init : goal.loop-sending-init
loop-sending-init c =
    let steps = all_steps c.args.report.now.records.items c.args.told.now in
    let all = map sending_value c.deref-sending-items.result.now in
    record {
      left = λ arrival. c.in_ok-takes.ensures arrival ∙ minus-none (takes steps arrival);
      whole = ap (λ l. map sending_value l ++ untaken steps [] all) c.new-lost.ensures.items;
    }

pub loop-sending-preserved : goal.loop-sending-preserved
loop-sending-preserved c =
    let steps = all_steps c.args.report.now.records.items c.args.told.now in
    let items = c.deref-sending-items.result.now in
    let earlier = take c.loop-sending.sending-index (map sending_value items) in
    let one = c.sending-item.result in
    let lost = c.loop-sending.lost.items in
    let so_far = c.loop-sending.invariant in
    let taken = c.in_ok-is_taken.ensures.taken steps earlier so_far.left in
    record {
      left =
          subst (λ l. AreLeft steps l c.is_taken.new.takes)
          (sym (earlier-more steps items c.loop-sending.sending-index one c.loop-sending-test.true c.sending-item.is))
          (c.in_ok-is_taken.ensures.left steps earlier so_far.left);
      whole =
          lost-more steps items c.loop-sending.sending-index one lost c.if-not-branch.lost.items
          c.loop-sending-test.true c.sending-item.is
          (elim c.if-not-branch.branch [
            | then-not-branch+in_ok-push w ↦
                ap (λ v. map sending_value v.items) w.lost-is ∙ ap (map sending_value) w.in_ok-push.ensures.items
                ∙ map-append sending_value lost (one ∷ [])
                ∙ ap (λ b. map sending_value lost ++ (if b then [] else sending_value one ∷ []))
                (sym w.if-not-branch.true ∙ taken)
            | else-not-branch w ↦
                ap (λ v. map sending_value v.items) w.lost-is
                ∙ sym (append-nil (map sending_value lost))
                ∙ ap (λ b. map sending_value lost ++ (if b then [] else sending_value one ∷ []))
                (sym w.if-not-branch.false ∙ taken)
          ])
          so_far.whole;
    }

pub returns : goal.returns
returns c =
    let system = c.args.system.now in
    let report = c.args.report.now in
    let steps = all_steps report.records.items c.args.told.now in
    lost-all steps c.deref-sending-items.result.now c.loop-sending.sending-index c.loop-sending.lost.items
    c.loop-sending-test.false c.loop-sending.invariant.whole
    ∙ ap (λ l. untaken steps [] (map sending_value l)) c.deref-sending-items.ensures.value
    ∙ ap (untaken steps []) (c.in_ok-sendings.ensures ∙ ap (sendings system report [] steps) c.deref.ensures.value)
