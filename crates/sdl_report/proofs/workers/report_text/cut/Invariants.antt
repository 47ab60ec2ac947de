use Rattle.std.proofs.Common.{◌≡◌, ◌++◌, ◌<◌, length, take}
use Rattle.sdl_report.specs.Pieces.{joined}
use Rattle.sdl_report.proofs.workers.report_text.cut.Given as goal

abbrev pub invariant-loop-piece : goal.invariant-loop-piece
invariant-loop-piece l =
    (joined (take l.piece-index l.pieces) ++ l.left ≡ l.fn.left)
    × (0 < l.piece-index → 0 < length l.fn.left → length l.left < length l.fn.left)
