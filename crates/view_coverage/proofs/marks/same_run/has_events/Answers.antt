use Rattle.std.proofs.Common.{◌∙◌, ap, sym}
use Rattle.std.specs.List.{filter}
use Rattle.view_coverage.specs.Marks.{is_no_mark}
use Rattle.view_coverage.proofs.MarkLemmas.{filter-step}
use Rattle.view_coverage.proofs.marks.same_run.has_events.Goals as goal

pub loop-told-preserved : goal.loop-told-preserved
loop-told-preserved c = λ matches.
    c.loop-told.invariant
    (filter-step (is_no_mark c.args.variable) _ _ _ _ _ c.in-Some.ensures.steps
    (c.goes_on.ensures c.if-not-goes_on.false) matches)

pub returns : goal.returns
returns c = λ is.
    c.loop-told.invariant
    (c.is_done.ensures is ∙ sym (ap (filter (is_no_mark c.args.variable)) c.in-None.ensures.steps.0))
