use Rattle.sdl_engine.specs.Answer.{carried}
use Rattle.sdl_engine.proofs.FailedLaws.{checked_failed}
use Rattle.sdl_engine.proofs.text.tell.Goals as goal

pub returns-in-Check-clause-ok : goal.returns-in-Check-clause-ok
returns-in-Check-clause-ok g c = c.tell_check.ensures.ok g.E.Runner.threaded

pub returns-in-Check-clause-err : goal.returns-in-Check-clause-err
returns-in-Check-clause-err g c = c.tell_check.ensures.err g.E.Runner.threaded

pub returns-in-Check-clause-told_failed : goal.returns-in-Check-clause-told_failed
returns-in-Check-clause-told_failed g c = λ start.
    checked_failed c.args.input.now (carried g.E.Runner.threaded c.args.options.now) _ _ _ _ c.tell_check.result
    c.in-Check.is start
