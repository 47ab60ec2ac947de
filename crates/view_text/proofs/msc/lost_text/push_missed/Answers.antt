use Rattle.std.proofs.Common.{◌++◌, codes}
use Rattle.std.specs.String.{string_bytes}
use Rattle.view_text.specs.LostText.{became_text, missing_text}
use Rattle.view_text.proofs.Pushed.{grown, pushed}
use Rattle.view_text.proofs.msc.lost_text.push_missed.Goals as goal

pub returns : goal.returns
returns c =
    let text = string_bytes c.args.text.now in
    let cast = c.args.cast.now in
    let to = codes " to lost" in
    let missing = missing_text cast.system.now cast.report.now.records.items c.args.target in
    let became = became_text c.args.fate in
    pushed c.push_str-2.result _ text (to ++ missing ++ became) (codes "';")
    (grown text (to ++ missing) became
    (grown text to missing c.in_ok-push_str.ensures.bytes c.in_ok-push_missing.ensures) c.in_ok-push_became.ensures)
    c.push_str-2.ensures.bytes
