use Rattle.std.proofs.Common.{[], ◌∷◌, arith}
use Rattle.std.proofs.KnownBytes.{Appends-nil}
use Rattle.sdl_report.proofs.GatheredLemmas.{OnErr-any}
use Rattle.sdl_command_line.proofs.views.picture.write_picture.Goals as goal

pub returns-in_err-chart-clause-err : goal.returns-in_err-chart-clause-err
returns-in_err-chart-clause-err g c =
    OnErr-any c.from_residual.result
    (10 ∷ [], (0, omega arith, Appends-nil (g.W.Write.contents c.args.writer.now)))
