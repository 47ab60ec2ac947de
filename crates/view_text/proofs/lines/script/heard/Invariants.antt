use Rattle.std.proofs.Common.{◌≡◌, take}
use Rattle.view_text.specs.LinesText.{heard}
use Rattle.view_text.proofs.lines.script.heard.Given as goal

abbrev pub invariant-loop-record : goal.invariant-loop-record
invariant-loop-record l =
    l.taken ≡ heard (take l.record-index l.records)
