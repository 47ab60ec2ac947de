use Rattle.sdl_failures.proofs.CreateLemmas.{same_process}
use Rattle.sdl_failures.proofs.replayed.create.is_process.Goals as goal

pub returns : goal.returns
returns c = λ yes. same_process c.args.one c.args.wanted (c.is_number.ensures yes)
