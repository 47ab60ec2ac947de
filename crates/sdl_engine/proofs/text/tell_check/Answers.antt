use Rattle.std.proofs.Common.{refl, subst, sym}
use Rattle.sdl_engine.specs.Answer.{PrintsInput, carried}
use Rattle.sdl_engine.specs.declared.options.Command.TheVariants as command
use Rattle.sdl_engine.specs.declared.options.Outcome.TheVariants as outcome
use Rattle.sdl_engine.proofs.AnswerLaws.{canonical_says, check_allows, failed_by, fails_by, refused_by, tells_by}
use Rattle.sdl_engine.proofs.text.tell_check.Goals as goal

pub returns-in-Ok-clause-ok : goal.returns-in-Ok-clause-ok
returns-in-Ok-clause-ok g c = λ threaded.
    let text = c.as_str.result.now in
    let options = carried threaded c.args.options.now in
    let prints = subst (λ t. PrintsInput c.args.input.now t) (sym c.as_str.ensures.value) c.in-Ok.ensures.ok in
    tells_by c.args.input.now options outcome.Whole text _ _ c.canonical.result
    (canonical_says c.args.input.now options text c.requires prints) c.canonical.ensures.how c.canonical.ensures.ok

pub returns-in-Ok-clause-err : goal.returns-in-Ok-clause-err
returns-in-Ok-clause-err g c = λ threaded.
    let text = c.as_str.result.now in
    let options = carried threaded c.args.options.now in
    let prints = subst (λ t. PrintsInput c.args.input.now t) (sym c.as_str.ensures.value) c.in-Ok.ensures.ok in
    fails_by c.args.input.now options outcome.Whole text _ _ c.canonical.result
    (canonical_says c.args.input.now options text c.requires prints) c.canonical.ensures.err

pub returns-in-Err-clause-ok : goal.returns-in-Err-clause-ok
returns-in-Err-clause-ok g c = λ threaded.
    let options = carried threaded c.args.options.now in
    refused_by command.Check options.workers c.args.input.now options c.in-Err.refusal _ _ c.refuse.result c.requires
    refl (check_allows options.workers c.args.input.now c.in-Err.refusal c.in-Err.ensures.err) c.refuse.ensures.how
    c.refuse.ensures.ok

pub returns-in-Err-clause-err : goal.returns-in-Err-clause-err
returns-in-Err-clause-err g c = λ threaded.
    let options = carried threaded c.args.options.now in
    failed_by command.Check options.workers c.args.input.now options c.in-Err.refusal _ _ c.refuse.result c.requires
    refl (check_allows options.workers c.args.input.now c.in-Err.refusal c.in-Err.ensures.err) c.refuse.ensures.err
