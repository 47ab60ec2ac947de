use Rattle.std.proofs.Common.{◌≡◌, ◌++◌, [], List, length}
use Rattle.std.specs.Io.KnownBytes.{Appends}
use Rattle.sdl_report.specs.Lines.{LineValue, lines_text}
use Rattle.sdl_report.proofs.workers.report_text.write_pieces.Given as goal

-- the lines that aren't left went out, and nothing is on the page
abbrev pub invariant-rounds : goal.invariant-rounds
invariant-rounds g l =
    (sent : List LineValue) × (l.fn.lines ≡ sent ++ l.left) × (l.page ≡ [])
    × Appends (g.W.Write.contents l.fn.writer) (g.W.Write.contents l.writer) (lines_text l.names sent)

abbrev pub decreases-rounds : goal.decreases-rounds
decreases-rounds g l = length l.left
