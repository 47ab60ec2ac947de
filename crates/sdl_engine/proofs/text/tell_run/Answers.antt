use Rattle.std.proofs.Common.{◌≡◌, ◌∙◌, ap, arith, None}
use Rattle.std.proofs.KnownBytes.{Keeps-trans}
use Rattle.sdl_engine.specs.Answer.{carried, workers_by}
use Rattle.sdl_engine.specs.Kept.{IsLogged}
use Rattle.sdl_engine.specs.declared.options.Command.TheVariants as command
use Rattle.sdl_engine.proofs.FailedLaws.{refused_failed, run_failed, tells_kept, tells_none}
use Rattle.sdl_engine.specs.declared.run.Run.{Run}
use Rattle.sdl_engine.proofs.AnswerLaws.{failed_by, refused_by, run_fails, run_tells}
use Rattle.sdl_engine.proofs.KeptLaws.{if_kept, if_none, run_kept}
use Rattle.sdl_engine.proofs.text.tell_run.Goals as goal

pub returns-in-Ok-clause-ok : goal.returns-in-Ok-clause-ok
returns-in-Ok-clause-ok g c =
    let run = c.in-Ok.run' in
    let threaded = g.E.Runner.threaded in
    let options = c.args.options.now in
    run_tells c.args.input.now (carried threaded options) (workers_by threaded command.Run options.workers)
    run.system run.report run.script.lines.items run.log _ _ _ c.report-told.result c.requires
    (ap (λ how. workers_by threaded how options.workers) c.requires) c.in-Ok.ensures.ok
    c.report-told.ensures.how c.report-told.ensures.ok

pub returns-in-Ok-clause-err : goal.returns-in-Ok-clause-err
returns-in-Ok-clause-err g c =
    let run = c.in-Ok.run' in
    let threaded = g.E.Runner.threaded in
    let options = c.args.options.now in
    run_fails c.args.input.now (carried threaded options) (workers_by threaded command.Run options.workers)
    run.system run.report run.script.lines.items run.log _ _ c.report-told.result c.requires
    (ap (λ how. workers_by threaded how options.workers) c.requires) c.in-Ok.ensures.ok
    c.report-told.ensures.err

pub returns-in-Ok-clause-quiet : goal.returns-in-Ok-clause-quiet
returns-in-Ok-clause-quiet g c = λ cut none order.
    Keeps-trans _ _ _ (c.report-told.ensures.quiet cut (order c.requires))
    (Keeps-trans _ _ _
    (c.note_failures.ensures.quiet (λ tells. grind (arith, c.keep_run.ensures.rest, none tells)))
    c.keep_run.ensures.quiet)

pub returns-in-Ok-clause-kept : goal.returns-in-Ok-clause-kept
returns-in-Ok-clause-kept g c = λ start.
    let notes = c.keep_run.new.notes in
    let threaded = g.E.Runner.threaded in
    let options = c.args.options.now in
    run_kept c.args.notes.now.keeps c.args.input.now (carried threaded options)
    (workers_by threaded command.Run options.workers) c.in-Ok.run' notes.run c.report-told.new.notes.stuck
    notes.stuck _ _ c.report-told.result c.requires (ap (λ how. workers_by threaded how options.workers) c.requires)
    c.in-Ok.ensures.ok c.report-told.ensures.how c.report-told.ensures.ok
    (grind (arith, c.note_failures.ensures.rest, c.keep_run.ensures.rest))
    (λ asked. grind (arith, c.keep_run.ensures.kept asked)) (λ other. grind (arith, c.keep_run.ensures.asked other))

pub returns-in-Ok-clause-failed : goal.returns-in-Ok-clause-failed
returns-in-Ok-clause-failed g c = λ start.
    tells_kept c.args.notes.now.keeps _ c.in-Ok.run' _
    (grind (arith, c.note_failures.ensures.failed, c.keep_run.ensures.rest))
    (λ asked. grind (arith, c.keep_run.ensures.kept asked)) (λ other. grind (arith, c.keep_run.ensures.asked other))

pub returns-in-Err-clause-failed : goal.returns-in-Err-clause-failed
returns-in-Err-clause-failed g c = λ start. tells_none _ _ start

pub returns-in-Err-clause-ok : goal.returns-in-Err-clause-ok
returns-in-Err-clause-ok g c =
    let threaded = g.E.Runner.threaded in
    let options = c.args.options.now in
    refused_by command.Run (workers_by threaded command.Run options.workers) c.args.input.now
    (carried threaded options) c.in-Err.refusal _ _ c.refuse.result c.requires
    (ap (λ how. workers_by threaded how options.workers) c.requires) c.in-Err.ensures.err c.refuse.ensures.how
    c.refuse.ensures.ok

pub returns-in-Err-clause-err : goal.returns-in-Err-clause-err
returns-in-Err-clause-err g c =
    let threaded = g.E.Runner.threaded in
    let options = c.args.options.now in
    failed_by command.Run (workers_by threaded command.Run options.workers) c.args.input.now
    (carried threaded options) c.in-Err.refusal _ _ c.refuse.result c.requires
    (ap (λ how. workers_by threaded how options.workers) c.requires) c.in-Err.ensures.err c.refuse.ensures.err

pub returns-in-Ok-clause-told_failed : goal.returns-in-Ok-clause-told_failed
returns-in-Ok-clause-told_failed g c = λ start.
    let notes = c.keep_run.new.notes in
    let threaded = g.E.Runner.threaded in
    let options = c.args.options.now in
    run_failed c.args.input.now (carried threaded options) (workers_by threaded command.Run options.workers)
    c.in-Ok.run' c.report-told.new.notes.stuck notes.stuck notes.failed _ _ c.report-told.result c.requires
    (ap (λ how. workers_by threaded how options.workers) c.requires) c.in-Ok.ensures.ok
    c.report-told.ensures.how c.report-told.ensures.ok
    (grind (arith, c.note_failures.ensures.rest, c.keep_run.ensures.rest))
    (grind (arith, c.note_failures.ensures.failed, c.keep_run.ensures.rest))

pub returns-in-Err-clause-told_failed : goal.returns-in-Err-clause-told_failed
returns-in-Err-clause-told_failed g c = λ start.
    refused_failed c.args.input.now (carried g.E.Runner.threaded c.args.options.now) c.in-Err.refusal _ _ _ _
    c.refuse.result c.refuse.ensures.how start

pub returns-in-Ok-clause-no_log : goal.returns-in-Ok-clause-no_log
returns-in-Ok-clause-no_log g c = λ start off order.
    if_kept (λ (run : Run). run.log ≡ None) c.args.notes.now.keeps c.in-Ok.run' _
    (c.in-Ok.ensures.off (c.may_tell_order-keeps_order.ensures (order c.requires) ∙ off))
    (λ asked. grind (arith, c.keep_run.ensures.kept asked)) (λ other. grind (arith, c.keep_run.ensures.asked other))

pub returns-in-Err-clause-no_log : goal.returns-in-Err-clause-no_log
returns-in-Err-clause-no_log g c = λ start off order. if_none (λ (run : Run). run.log ≡ None) _ start

pub returns-in-Ok-clause-log : goal.returns-in-Ok-clause-log
returns-in-Ok-clause-log g c = λ start.
    if_kept (IsLogged (workers_by g.E.Runner.threaded command.Run c.args.options.now.workers) c.args.options.now.limit)
    c.args.notes.now.keeps c.in-Ok.run' _ c.in-Ok.ensures.log (λ asked. grind (arith, c.keep_run.ensures.kept asked))
    (λ other. grind (arith, c.keep_run.ensures.asked other))

pub returns-in-Err-clause-log : goal.returns-in-Err-clause-log
returns-in-Err-clause-log g c = λ start.
    if_none (IsLogged (workers_by g.E.Runner.threaded command.Run c.args.options.now.workers) c.args.options.now.limit)
    _ start
