use Rattle.std.specs.String.{string_bytes}
use Rattle.sdl_report.proofs.GatheredLemmas.{OnErr-any}
use Rattle.view_text.specs.Occurrence.{occurrence_value}
use Rattle.view_text.specs.Occurrences.{occurrence_text}
use Rattle.view_text.proofs.Writing.{before-gathered, before-now}
use Rattle.view_text.proofs.timeline_text.write_one.Goals as goal

pub returns-in_err-push_one-clause-err : goal.returns-in_err-push_one-clause-err
returns-in_err-push_one-clause-err g c = OnErr-any c.from_residual.result (before-now _ _ _)

pub returns-in_err-send-clause-err : goal.returns-in_err-send-clause-err
returns-in_err-send-clause-err g c =
    let bytes = occurrence_text (g.T.TimelineText.step_text c.args.view.now)
    (g.T.TimelineText.lost_text c.args.view.now) (occurrence_value c.args.next.now) in
    OnErr-any c.from_residual-in_err-send.result
    (before-gathered _ _ (string_bytes c.args.text.now) _ bytes c.in_ok-push_one.ensures c.in_err-send.ensures.err)
