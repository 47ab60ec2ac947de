use Rattle.std.proofs.Common.{◌≡◌, ◌++◌, subst}
use Rattle.std.specs.Prelude.{OnOk}
use Rattle.std.specs.String.{string_bytes}
use Rattle.view_text.specs.EventText.{message_text}
use Rattle.view_text.specs.LostText.{begun_text, missed_text}
use Rattle.view_text.proofs.Pushed.{grown, said}
use Rattle.view_timeline.specs.declared.moves.Link.TheVariants as is
use Rattle.view_text.proofs.msc.lost_text.push_lost_text.Goals as goal

pub returns : goal.returns
returns c =
    let text = string_bytes c.args.text.now in
    let cast = c.args.cast.now in
    let lost = c.args.lost.now in
    let begun = begun_text lost.at in
    let message = message_text cast.system.now lost.item.now.name is.Plain in
    let missed = missed_text cast.system.now cast.report.now.records.items lost.target in
    let it = c.as_slice-values.result.now in
    let fate = c.lost_fate.result in
    subst (λ fate. OnOk c.push_missed.result
    (string_bytes c.push_missed.new.text ≡ text ++ (begun ++ message lost.item.now.values ++ missed fate)))
    c.lost_fate.ensures
    (subst (λ values. OnOk c.push_missed.result
    (string_bytes c.push_missed.new.text ≡ text ++ (begun ++ message values ++ missed fate)))
    c.as_slice-values.ensures
    (said c.push_missed.result _ text (begun ++ message it) (missed fate)
    (grown text begun (message it) c.in_ok-push_begun.ensures c.in_ok-push_message.ensures) c.push_missed.ensures))
