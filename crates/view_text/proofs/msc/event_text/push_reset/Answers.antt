use Rattle.std.proofs.Common.{codes}
use Rattle.view_text.specs.EventText.{message_text}
use Rattle.view_timeline.specs.declared.moves.Link.TheVariants as is
use Rattle.std.specs.String.{string_bytes}
use Rattle.view_text.proofs.Pushed.{said}
use Rattle.view_text.proofs.msc.event_text.push_reset.Goals as goal

pub returns : goal.returns
returns c =
    let text = string_bytes c.args.text.now in
    said c.push_message.result _ text (codes "stoptimer ")
    (message_text c.args.system.now c.args.timer is.Plain c.args.values.now) c.in_ok-push_str.ensures.bytes
    c.push_message.ensures
