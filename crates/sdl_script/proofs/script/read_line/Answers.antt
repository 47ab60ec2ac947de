use Rattle.std.proofs.Common.{subst, rules}
use Rattle.std.proofs.lemmas.Bool.Decides.{nat_tests}
use Rattle.std.proofs.lemmas.Result.{err_from_is_err_and}
use Rattle.sdl_script.specs.Spelled.{plain, plain_signal}
use Rattle.sdl_script.specs.Spelling.{SpellsLine}
use Rattle.sdl_script.proofs.ScriptLemmas.{signal_fault}
use Rattle.sdl_script.proofs.script.read_line.Goals as goal

pub returns-in_err-signal_of-in-Some-clause-fault : goal.returns-in_err-signal_of-in-Some-clause-fault
returns-in_err-signal_of-in-Some-clause-fault c =
    let p = err_from_is_err_and c.from_residual-in_err-signal_of-in-Some.result c.from_residual-in_err-signal_of-in-Some.ensures.1 in
    let spelling = c.in_ok-at.field-0 in
    rw (p.1, p.2)
    (signal_fault c.args.system.now c.args.earliest spelling.at c.args.line.now (plain c.in-Some.spelled) c.in_err-signal_of-in-Some.field-0.0
    (subst (λ o. SpellsLine spelling.at (plain_signal o) c.args.line.now) c.in-Some.is c.in_ok-at.ensures.ok)
    (search (rules, nat_tests)) c.in_err-signal_of-in-Some.ensures.fault)
