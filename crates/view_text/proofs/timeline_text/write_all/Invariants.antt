use Rattle.std.proofs.Common.{◌≡◌, ◌++◌, List, length}
use Rattle.std.specs.List.{flat_map}
use Rattle.std.specs.String.{string_bytes}
use Rattle.sdl_report.specs.Gathered.{Grows}
use Rattle.view_text.specs.Occurrences.{Occurrence, occurrence_text}
use Rattle.view_text.proofs.timeline_text.write_all.Given as goal

abbrev pub invariant-loop-next : goal.invariant-loop-next
invariant-loop-next g l =
    (passed : List Occurrence) × (passed ++ l.left ≡ l.initial.left)
    × Grows (g.W.Write.contents l.fn.writer) (string_bytes l.fn.text) (g.W.Write.contents l.writer)
    (string_bytes l.text)
    (flat_map (occurrence_text (g.T.TimelineText.step_text l.view) (g.T.TimelineText.lost_text l.view)) passed)

abbrev pub decreases-loop-next : goal.decreases-loop-next
decreases-loop-next g l = length l.left
