use Rattle.std.proofs.Common.{take}
use Rattle.std.specs.List.{AllZip}
use Rattle.view_run.specs.Looked.{HadLooked}
use Rattle.view_run.proofs.replay.looked.looked_before_failures.Given as goal

-- So it is of the records that were asked.
abbrev pub invariant-loop-trace : goal.invariant-loop-trace
invariant-loop-trace l = AllZip (HadLooked l.system l.records) (take l.trace-index l.records) l.looked.items
