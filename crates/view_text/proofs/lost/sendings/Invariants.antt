use Rattle.view_text.proofs.Sent.{AreSent}
use Rattle.view_text.specs.Walk.{all_steps}
use Rattle.view_text.proofs.lost.sendings.Given as goal

abbrev pub invariant-loop-line : goal.invariant-loop-line
invariant-loop-line l =
    AreSent l.system l.report (all_steps l.report.records.items l.told) l.lines
    l.line-index l.course l.sent.items
