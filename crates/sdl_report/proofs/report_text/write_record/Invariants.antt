use Rattle.std.proofs.Common.{◌≡◌, ◌++◌, List}
use Rattle.std.specs.List.{flat_map}
use Rattle.run_record.specs.Event.{Event}
use Rattle.sdl_report.specs.Gathered.{Grows}
use Rattle.sdl_report.specs.ReportText.{event_line, heading_text, line}
use Rattle.sdl_report.proofs.report_text.write_record.Given as goal

abbrev pub invariant-loop-told : goal.invariant-loop-told
invariant-loop-told g l =
    (done : List Event) × (l.record.events ≡ done ++ l.told-iterator)
    × Grows (g.W.Write.contents l.fn.writer) l.fn.page (g.W.Write.contents l.writer) l.page
    (line (heading_text l.names l.record) ++ flat_map (event_line l.names l.record) done)
