use Rattle.std.proofs.Common.{◌++◌, codes}
use Rattle.view_text.specs.EventText.{due_text, message_text}
use Rattle.view_timeline.specs.declared.moves.Link.TheVariants as is
use Rattle.std.specs.String.{string_bytes}
use Rattle.view_text.proofs.Pushed.{grown, said}
use Rattle.view_text.proofs.msc.event_text.push_set.Goals as goal

pub returns : goal.returns
returns c =
    let text = string_bytes c.args.text.now in
    let set = codes "starttimer " in
    let message = message_text c.args.system.now c.args.timer is.Plain c.args.values.now in
    said c.push_due.result _ text (set ++ message) (due_text c.args.due)
    (grown text set message c.in_ok-push_str.ensures.bytes c.in_ok-push_message.ensures) c.push_due.ensures
