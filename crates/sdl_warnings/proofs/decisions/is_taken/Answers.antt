use Rattle.std.proofs.Common.{ap, ◌∙◌}
use Rattle.sdl_warnings.specs.Decisions.{have_value_of}
use Rattle.sdl_warnings.proofs.AnswerLemmas.{taken_shares}
use Rattle.sdl_warnings.proofs.decisions.is_taken.Goals as goal

pub returns-clause-shares : goal.returns-clause-shares
returns-clause-shares c =
    taken_shares c.args.earlier.now c.args.taken c.have_value_of.result
    (c.have_value_of.ensures ∙ ap (have_value_of c.args.taken) c.first_compared.ensures)
