use Rattle.std.proofs.Common.{[], ◌++◌, codes}
use Rattle.view_text.specs.EventText.{at_text, failed_text}
use Rattle.std.specs.String.{string_bytes}
use Rattle.view_text.proofs.Pushed.{grown, pushed}
use Rattle.view_text.proofs.msc.event_text.push_failed_at.Goals as goal

pub returns : goal.returns
returns c =
    let text = string_bytes c.args.text.now in
    let failed = failed_text c.args.why in
    let at = at_text c.args.at [] in
    pushed c.push_str.result _ text (failed ++ at) (codes "; stop")
    (grown text failed at c.in_ok-push_failed.ensures c.in_ok-push_at.ensures) c.push_str.ensures.bytes
