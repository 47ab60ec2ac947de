use Rattle.std.proofs.Common.{ap}
use Rattle.std.proofs.lemmas.Result.{on_err_weaker, on_ok_weaker}
use Rattle.std.specs.List.{flat_map}
use Rattle.sdl_report.proofs.GatheredLemmas.{OnErr-any}
use Rattle.view_text.specs.Occurrences.{occurrence_text}
use Rattle.view_text.proofs.Writing.{appends-sent, breaks-closing, breaks-none, breaks-sent, breaks-steps}
use Rattle.view_text.proofs.timeline_text.write_timeline.Goals as goal

pub returns-in_err-push_heading-clause-err : goal.returns-in_err-push_heading-clause-err
returns-in_err-push_heading-clause-err g c =
    OnErr-any c.from_residual.result (breaks-none _ _ _ (g.met.T.TimelineText.ends c.args.view.now))

pub returns-in_err-all-clause-err : goal.returns-in_err-all-clause-err
returns-in_err-all-clause-err g c =
    OnErr-any c.from_residual-in_err-all.result (breaks-none _ _ _ (g.met.T.TimelineText.ends c.args.view.now))

pub returns-in_err-write_all-clause-err : goal.returns-in_err-write_all-clause-err
returns-in_err-write_all-clause-err g c =
    let f = occurrence_text (g.T.TimelineText.step_text c.args.view.now) (g.T.TimelineText.lost_text c.args.view.now) in
    OnErr-any c.from_residual-in_err-write_all.result
    (breaks-steps _ _ _ _ _ _ _ _ (g.met.T.TimelineText.ends c.args.view.now) c.new-text.ensures.bytes
    c.in_ok-push_heading.ensures (ap (flat_map f) c.in_ok-all.ensures) c.in_err-write_all.ensures.err)

pub returns-in_err-push_closing-clause-err : goal.returns-in_err-push_closing-clause-err
returns-in_err-push_closing-clause-err g c =
    let f = occurrence_text (g.T.TimelineText.step_text c.args.view.now) (g.T.TimelineText.lost_text c.args.view.now) in
    OnErr-any c.from_residual-in_err-push_closing.result
    (breaks-closing _ _ _ _ _ _ _ _ (g.met.T.TimelineText.ends c.args.view.now) c.new-text.ensures.bytes
    c.in_ok-push_heading.ensures (ap (flat_map f) c.in_ok-all.ensures) _ c.in_ok-write_all.ensures.ok)

pub returns-clause-ok : goal.returns-clause-ok
returns-clause-ok g c =
    let f = occurrence_text (g.T.TimelineText.step_text c.args.view.now) (g.T.TimelineText.lost_text c.args.view.now) in
    on_ok_weaker c.send.result
    (appends-sent _ _ _ _ _ _ _ _ (g.met.T.TimelineText.ends c.args.view.now) c.new-text.ensures.bytes
    c.in_ok-push_heading.ensures (ap (flat_map f) c.in_ok-all.ensures) _ c.in_ok-write_all.ensures.ok _ _
    c.in_ok-push_closing.ensures)
    c.send.ensures.sent

pub returns-clause-err : goal.returns-clause-err
returns-clause-err g c =
    let f = occurrence_text (g.T.TimelineText.step_text c.args.view.now) (g.T.TimelineText.lost_text c.args.view.now) in
    on_err_weaker c.send.result
    (breaks-sent _ _ _ _ _ _ _ _ (g.met.T.TimelineText.ends c.args.view.now) c.new-text.ensures.bytes
    c.in_ok-push_heading.ensures (ap (flat_map f) c.in_ok-all.ensures) _ c.in_ok-write_all.ensures.ok _ _
    c.in_ok-push_closing.ensures)
    c.send.ensures.err
