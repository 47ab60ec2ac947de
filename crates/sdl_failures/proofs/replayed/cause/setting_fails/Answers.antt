-- When the timer is due fails, or else the timer does.
use Rattle.run_record.specs.Knowledge.{environment_of}
use Rattle.run_semantics.specs.Fails.{due_by}
use Rattle.sdl_system.specs.Table.{setting, when_due}
use Rattle.sdl_failures.proofs.CauseLemmas.{meant-or, set-unkeyed, set-untimed}
use Rattle.sdl_failures.proofs.replayed.cause.setting_fails.Goals as goal

pub returns-in-Err : goal.returns-in-Err
returns-in-Err c = λ same.
    let here = environment_of c.args.knowledge.now in
    let one = c.args.one.now in
    set-untimed here (setting one) c.args.why
    (meant-or (due_by here (when_due one.due)) c.in-Err.found c.args.why c.in-Err.ensures.err (c.is_same.ensures same)
    c.requires)

pub returns-in-Ok : goal.returns-in-Ok
returns-in-Ok c = λ fails.
    set-unkeyed (environment_of c.args.knowledge.now) (setting c.args.one.now) c.args.why _ c.in-Ok.ensures.ok
    (c.timer_fails.ensures fails)
