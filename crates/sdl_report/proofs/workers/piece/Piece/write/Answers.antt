use Rattle.std.proofs.Common.{◌∙◌, subst}
use Rattle.std.specs.Prelude.{OnErr}
use Rattle.sdl_report.specs.Gathered.{BreaksOff}
use Rattle.sdl_report.specs.Lines.{lines_text}
use Rattle.sdl_report.proofs.workers.piece.Piece.write.Goals as goal

pub returns-then-self-clause-err : goal.returns-then-self-clause-err
returns-then-self-clause-err g c =
    subst
    (λ l. OnErr c.write_text.result
    (BreaksOff (g.W.Write.contents c.args.writer.now) (g.W.Write.contents c.write_text.new.writer) l))
    (c.as_slice.ensures.value ∙ c.requires.made c.if-self.true) c.write_text.ensures.err

pub returns-else-self-clause-err : goal.returns-else-self-clause-err
returns-else-self-clause-err g c =
    subst
    (λ l. OnErr c.write_lines.result
    (BreaksOff (g.W.Write.contents c.args.writer.now) (g.W.Write.contents c.write_lines.new.writer)
    (lines_text c.args.names.now l)))
    c.again.ensures c.write_lines.ensures.err
