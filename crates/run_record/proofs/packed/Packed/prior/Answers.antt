use Rattle.std.proofs.Common.{[], ◌∷◌, ap}
use Rattle.port_model.specs.declared.got.Got as got
use Rattle.run_record.specs.Event as event
use Rattle.run_record.proofs.packed.Packed.prior.Goals as goal

pub returns-clause-told : goal.returns-clause-told
returns-clause-told c = λ time. ap (λ (g : got.Got). event.Prior time g ∷ []) c.parts_of-origin.ensures
