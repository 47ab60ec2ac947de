use Rattle.std.proofs.Common.{◌∙◌, ap}
use Rattle.input_port.proofs.Moves.{pops, learns}
use Rattle.input_port.proofs.queue.steps.pop.Goals as goal

pub try_pop_from-requires-clause-rule : goal.try_pop_from-requires-clause-rule
try_pop_from-requires-clause-rule g c =
    let same = c.head-first.ensures.1.0.2 in
    let rights = ap (λ v. v.takes) same ∙ c.requires.rights in (pops _ _ rights, learns _ _ rights)

pub pop_as-requires-clause-rule : goal.pop_as-requires-clause-rule
pop_as-requires-clause-rule g c =
    let same = c.in-Err.ensures.again.0 ∙ c.head-first.ensures.1.0.2 in
    let rights = ap (λ v. v.takes) same ∙ c.requires.rights in (pops _ _ rights, learns _ _ rights)
