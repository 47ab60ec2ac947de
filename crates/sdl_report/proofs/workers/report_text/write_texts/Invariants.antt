use Rattle.std.proofs.Common.{◌≡◌, [], take}
use Rattle.std.specs.Io.KnownBytes.{Appends}
use Rattle.sdl_report.specs.Pieces.{pieces_text}
use Rattle.sdl_report.proofs.workers.report_text.write_texts.Given as goal

abbrev pub invariant-loop-piece : goal.invariant-loop-piece
invariant-loop-piece g l =
    (l.page ≡ [])
    × Appends (g.W.Write.contents l.fn.writer) (g.W.Write.contents l.writer)
    (pieces_text l.names (take l.piece-index l.pieces))
