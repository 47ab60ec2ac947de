use Rattle.std.proofs.Common.{◌≡◌, ◌++◌, [], List}
use Rattle.sdl_report.specs.Gathered.{Grows}
use Rattle.sdl_report.specs.Lines.{LineValue, lines_text}
use Rattle.sdl_report.proofs.workers.stretch.write_lines.Given as goal

abbrev pub invariant-loop-one : goal.invariant-loop-one
invariant-loop-one g l =
    (done : List LineValue) × (l.fn.lines ≡ done ++ l.one-iterator)
    × Grows (g.W.Write.contents l.fn.writer) [] (g.W.Write.contents l.writer) l.page (lines_text l.names done)
