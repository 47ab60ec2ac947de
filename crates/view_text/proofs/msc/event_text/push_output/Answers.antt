use Rattle.std.proofs.Common.{◌++◌, codes}
use Rattle.view_text.specs.EventText.{message_text, receiver_text}
use Rattle.std.specs.String.{string_bytes}
use Rattle.view_text.proofs.Pushed.{grown, said}
use Rattle.view_text.proofs.msc.event_text.push_output.Goals as goal

pub returns : goal.returns
returns c =
    let text = string_bytes c.args.text.now in
    let cast = c.args.cast.now in
    let out = codes "out " in
    let message = message_text cast.system.now c.args.signal c.args.link c.args.values.now in
    let to = codes " to " in
    said c.push_receiver.result _ text (out ++ message ++ to)
    (receiver_text cast.system.now cast.report.now.records.items cast.told.now c.args.target c.args.link)
    (grown text (out ++ message) to
    (grown text out message c.in_ok-push_str.ensures.bytes c.in_ok-push_message.ensures)
    c.in_ok-push_str-2.ensures.bytes) c.push_receiver.ensures
