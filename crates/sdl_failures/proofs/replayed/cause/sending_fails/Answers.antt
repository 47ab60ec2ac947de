-- Whom the output names fails, or else the values do.
use Rattle.std.proofs.Common.{option_map}
use Rattle.std.specs.Prelude.{option_copied}
use Rattle.run_record.specs.Knowledge.{environment_of}
use Rattle.run_semantics.specs.Fails.{named_by}
use Rattle.sdl_system.specs.Table.{sending, whither_of}
use Rattle.sdl_failures.proofs.CauseLemmas.{meant-or, sent-unnamed, sent-unvalued}
use Rattle.sdl_failures.proofs.replayed.cause.sending_fails.Goals as goal

pub returns-in-Err : goal.returns-in-Err
returns-in-Err c = λ same.
    let knowledge = c.args.knowledge.now in
    let here = environment_of knowledge in
    let whom = option_map whither_of (option_copied c.args.to) in
    sent-unnamed knowledge.system here whom (sending c.args.one.now) c.args.why
    (meant-or (named_by here whom) c.in-Err.found c.args.why c.in-Err.ensures.err (c.is_same.ensures same) c.requires)

pub returns-in-Ok : goal.returns-in-Ok
returns-in-Ok c = λ fails.
    let knowledge = c.args.knowledge.now in
    sent-unvalued knowledge.system (environment_of knowledge) (option_map whither_of (option_copied c.args.to))
    (sending c.args.one.now) c.args.why _ c.in-Ok.ensures.ok (c.values_fail.ensures fails)
