use Rattle.std.proofs.Common.{◌++◌, codes}
use Rattle.std.specs.Fmt.{decimal}
use Rattle.std.specs.String.{string_bytes}
use Rattle.view_text.proofs.Pushed.{grown, pushed}
use Rattle.view_text.proofs.msc.event_text.push_at.Goals as goal

pub returns : goal.returns
returns c =
    let text = string_bytes c.args.text.now in
    let at = codes " comment 'at " in
    let number = decimal c.args.at in
    let remark = c.args.remark.now in
    pushed c.push_str-3.result _ text (at ++ number ++ remark) (codes "'")
    (grown text (at ++ number) remark (grown text at number c.in_ok-push_str.ensures.bytes c.in_ok-push_number.ensures)
    c.in_ok-push_str-2.ensures.bytes) c.push_str-3.ensures.bytes
