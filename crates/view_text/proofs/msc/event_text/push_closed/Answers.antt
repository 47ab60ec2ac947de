use Rattle.std.proofs.Common.{◌++◌, codes}
use Rattle.std.specs.String.{string_bytes}
use Rattle.view_text.proofs.Pushed.{grown, pushed}
use Rattle.view_text.proofs.msc.event_text.push_closed.Goals as goal

pub returns : goal.returns
returns c =
    let text = string_bytes c.args.text.now in
    let end = codes "endinstance comment '" in
    let how = c.args.how.now in
    let state = c.args.state.now in
    pushed c.push_str-4.result _ text (end ++ how ++ state) (codes "'")
    (grown text (end ++ how) state
    (grown text end how c.in_ok-push_str.ensures.bytes c.in_ok-push_str-2.ensures.bytes)
    c.in_ok-push_str-3.ensures.bytes) c.push_str-4.ensures.bytes
