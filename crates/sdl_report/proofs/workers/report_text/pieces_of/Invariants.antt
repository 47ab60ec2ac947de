use Rattle.std.proofs.Common.{◌≡◌, vec_len}
use Rattle.sdl_report.proofs.workers.report_text.pieces_of.Given as goal

abbrev pub invariant-loop-piece : goal.invariant-loop-piece
invariant-loop-piece l = vec_len l.pieces ≡ l._piece
