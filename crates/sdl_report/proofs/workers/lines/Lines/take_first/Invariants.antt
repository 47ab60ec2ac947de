use Rattle.std.proofs.Common.{◌≡◌, drop}
use Rattle.sdl_report.proofs.workers.lines.Lines.take_first.Given as goal

abbrev pub invariant-loop-place : goal.invariant-loop-place
invariant-loop-place l = l.self ≡ drop l._place l.fn.self
