use Rattle.std.proofs.Common.{◌++◌, codes}
use Rattle.std.specs.Fmt.{decimal}
use Rattle.std.specs.String.{string_bytes}
use Rattle.view_text.proofs.Pushed.{grown, pushed}
use Rattle.view_text.proofs.msc.event_text.push_due.Goals as goal

pub returns : goal.returns
returns c =
    let text = string_bytes c.args.text.now in
    let due = codes " comment 'due " in
    let number = decimal c.args.due in
    pushed c.push_str-2.result _ text (due ++ number) (codes "'")
    (grown text due number c.in_ok-push_str.ensures.bytes c.in_ok-push_number.ensures) c.push_str-2.ensures.bytes
