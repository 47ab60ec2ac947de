-- Effects one after the other.
use Rattle.std.proofs.Common.{ℕ, List, [], ◌∷◌}
use Rattle.serial_run.specs.StepWorld.{AreNumbered}
use Rattle.serial_order.specs.Told.{given_after_one}
use Rattle.run_semantics.specs.Effect.{Effect, Arm, Create, Send}

-- the first act, and those behind it
pub AreNumbered-first : (given : ℕ) (first : Effect) (rest : List Effect) → AreNumbered given (first ∷ rest)
    → AreNumbered given (first ∷ []) × AreNumbered (given_after_one given first) rest
AreNumbered-first given (Create process number parent values) rest all = ((all.0, tt), all.1)
AreNumbered-first given (Send target item) rest all = (tt, all)
AreNumbered-first given (Arm fuse) rest all = (tt, all)
