use Rattle.std.proofs.Common.{[], ◌++◌, codes}
use Rattle.view_text.specs.EventText.{at_text, word}
use Rattle.std.specs.String.{string_bytes}
use Rattle.view_text.proofs.Pushed.{grown, said}
use Rattle.view_text.proofs.msc.event_text.push_start.Goals as goal

pub returns : goal.returns
returns c =
    let text = string_bytes c.args.text.now in
    let instance = codes "instance process " in
    let process = word c.args.process.now in
    let start = codes "; condition start" in
    said c.push_at.result _ text (instance ++ process ++ start) (at_text c.args.at [])
    (grown text (instance ++ process) start
    (grown text instance process c.in_ok-push_str.ensures.bytes c.in_ok-push_word.ensures)
    c.in_ok-push_str-2.ensures.bytes) c.push_at.ensures
