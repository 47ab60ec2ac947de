use Rattle.sdl_report.proofs.GatheredLemmas.{OnErr-any}
use Rattle.sdl_report.proofs.WorkersPieceLemmas.{breaks-here}
use Rattle.sdl_report.specs.Pieces.{piece_text}
use Rattle.sdl_report.proofs.workers.report_text.write_texts.Goals as goal

pub returns-in_err-write-clause-err : goal.returns-in_err-write-clause-err
returns-in_err-write-clause-err g c =
    OnErr-any c.from_residual.result
    (breaks-here (piece_text c.args.names.now) c.args.pieces.now c.loop-piece.piece-index c.piece-item.result
    c.loop-piece-test.true c.piece-item.is (g.W.Write.contents c.args.writer.now) (g.W.Write.contents c.loop-piece.writer)
    (g.W.Write.contents c.write.new.writer) c.loop-piece.invariant.1 c.in_err-write.ensures.err)
