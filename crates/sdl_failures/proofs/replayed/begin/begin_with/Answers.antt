use Rattle.std.proofs.Common.{None, Some, sym}
use Rattle.sdl_failures.proofs.BeginLemmas.{begins-with}
use Rattle.sdl_failures.proofs.replayed.begin.begin_with.Goals as goal

pub returns-in-None : goal.returns-in-None
returns-in-None c = λ values.
    sym (begins-with c.args.process.now c.args.state c.args.got values None c.in-None.ensures)

pub returns-in-Some : goal.returns-in-Some
returns-in-Some c = λ values.
    sym (begins-with c.args.process.now c.args.state c.args.got values (Some c.in-Some.reception.now) c.in-Some.ensures)
