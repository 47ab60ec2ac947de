use Rattle.std.proofs.Common.{take, []}
use Rattle.std.specs.List.{flat_map}
use Rattle.sdl_report.specs.Gathered.{Grows}
use Rattle.sdl_report.specs.ReportText.{record_text}
use Rattle.sdl_report.proofs.report_text.write_rest.Given as goal

abbrev pub invariant-loop-record : goal.invariant-loop-record
invariant-loop-record g l =
    Grows (g.W.Write.contents l.fn.writer) [] (g.W.Write.contents l.writer) l.page
    (flat_map (record_text l.system) (take l.record-index l.rest))
