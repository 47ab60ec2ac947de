use Rattle.std.proofs.Common.{[], ◌++◌, codes}
use Rattle.std.specs.Fmt.{decimal}
use Rattle.view_text.specs.EventText.{at_text}
use Rattle.std.specs.String.{string_bytes}
use Rattle.view_text.proofs.Pushed.{grown, said}
use Rattle.view_text.proofs.msc.event_text.push_provided.Goals as goal

pub returns : goal.returns
returns c =
    let text = string_bytes c.args.text.now in
    let provided = codes "action 'provided " in
    let number = decimal c.args.number in
    let end = codes "'" in
    said c.push_at.result _ text (provided ++ number ++ end) (at_text c.args.at [])
    (grown text (provided ++ number) end
    (grown text provided number c.in_ok-push_str.ensures.bytes c.in_ok-push_number.ensures)
    c.in_ok-push_str-2.ensures.bytes) c.push_at.ensures
