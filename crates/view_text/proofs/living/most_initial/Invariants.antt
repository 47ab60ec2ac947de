use Rattle.std.proofs.Common.{take}
use Rattle.view_timeline.specs.Lives.{is_initial}
use Rattle.view_text.specs.Living.{IsMost}
use Rattle.view_text.proofs.living.most_initial.Given as goal

abbrev pub invariant-loop-record : goal.invariant-loop-record
invariant-loop-record l = IsMost l.most (is_initial (take l.record-index l.records))
