-- One record more.
use Rattle.std.proofs.Common.{◌∙◌, subst, sym, List}
use Rattle.std.proofs.lemmas.Iterator.Adapters.{YieldsList-from_vec}
use Rattle.std.proofs.lemmas.Iterator.Consumers.{YieldsList-end}
use Rattle.port_model.specs.declared.course.course_log.CourseLog.{CourseLog}
use Rattle.std.specs.List.{AllZip}
use Rattle.settle_run.specs.Course.{HasDrawnOf, HasVersionsOf}
use Rattle.settle_run.proofs.CourseLemmas.{all_yielded, noted_more, noted_none}
use Rattle.settle_run.proofs.course.noted_in.Goals as goal

pub loop-log-init : goal.loop-log-init
loop-log-init c = noted_none _ _ c.in_ok-drawn.ensures.items c.in_ok-versions.ensures.items

pub loop-log-preserved : goal.loop-log-preserved
loop-log-preserved c =
    noted_more c.loop-log.yielded c.in-Some.log _ _ _ _ c.in-Some-into_list.counts c.in-Some-into_list-2.seen
    c.loop-log.invariant (sym c.in-Some-into_list.ensures) (sym c.in-Some-into_list-2.ensures)
    c.in_ok-push.ensures.items c.in_ok-push-2.ensures.items

pub returns-clause-drawn : goal.returns-clause-drawn
returns-clause-drawn c =
    let logs = c.args.logs.items in
    let started = c.into_iter-log-iterator.ensures.into_iter_gives in
    let end = YieldsList-end (YieldsList-from_vec logs started.0 (started.1 ∙ c.args.logs.ok.0)) c.loop-log.yielded
    c.loop-log.log-iterator c.loop-log.yielded_by c.next.result c.next.new.self c.in-None.is c.next.ensures.steps in
    subst (λ (l : List CourseLog). AllZip HasDrawnOf l c.loop-log.drawn.items)
    (sym (all_yielded c.loop-log.yielded) ∙ end.0) c.loop-log.invariant.drawn_are

pub returns-clause-versions : goal.returns-clause-versions
returns-clause-versions c =
    let logs = c.args.logs.items in
    let started = c.into_iter-log-iterator.ensures.into_iter_gives in
    let end = YieldsList-end (YieldsList-from_vec logs started.0 (started.1 ∙ c.args.logs.ok.0)) c.loop-log.yielded
    c.loop-log.log-iterator c.loop-log.yielded_by c.next.result c.next.new.self c.in-None.is c.next.ensures.steps in
    subst (λ (l : List CourseLog). AllZip HasVersionsOf l c.loop-log.versions.items)
    (sym (all_yielded c.loop-log.yielded) ∙ end.0) c.loop-log.invariant.versions_are
