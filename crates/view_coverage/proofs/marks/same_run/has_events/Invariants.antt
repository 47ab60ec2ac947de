use Rattle.std.proofs.Common.{◌≡◌}
use Rattle.std.specs.List.{filter}
use Rattle.view_coverage.specs.Marks.{is_no_mark}
use Rattle.view_coverage.proofs.marks.same_run.has_events.Given as goal

-- if what is left is the same, so is all
abbrev pub invariant-loop-told : goal.invariant-loop-told
invariant-loop-told l =
    l.rest ≡ filter (is_no_mark l.variable) l.told-iterator
    → l.plain.events ≡ filter (is_no_mark l.variable) l.marked.events
