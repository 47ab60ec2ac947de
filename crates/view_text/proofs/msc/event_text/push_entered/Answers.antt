use Rattle.std.proofs.Common.{codes}
use Rattle.view_text.specs.EventText.{word}
use Rattle.std.specs.String.{string_bytes}
use Rattle.view_text.proofs.Pushed.{said}
use Rattle.view_text.proofs.msc.event_text.push_entered.Goals as goal

pub returns : goal.returns
returns c =
    let text = string_bytes c.args.text.now in
    said c.push_word.result _ text (codes "condition ") (word c.args.state.now) c.in_ok-push_str.ensures.bytes
    c.push_word.ensures
