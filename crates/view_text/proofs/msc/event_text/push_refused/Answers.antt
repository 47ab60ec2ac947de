use Rattle.std.proofs.Common.{◌++◌, codes}
use Rattle.std.specs.String.{string_bytes}
use Rattle.view_text.proofs.Pushed.{grown, pushed}
use Rattle.view_text.proofs.msc.event_text.push_refused.Goals as goal

pub returns : goal.returns
returns c =
    let text = string_bytes c.args.text.now in
    let create = codes "action 'create " in
    let process = c.args.process.now in
    pushed c.push_str-3.result _ text (create ++ process) (codes " null'")
    (grown text create process c.in_ok-push_str.ensures.bytes c.in_ok-push_str-2.ensures.bytes)
    c.push_str-3.ensures.bytes
