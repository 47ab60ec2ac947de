-- The last event of a record tells whether its instance failed.
use Rattle.std.proofs.Common.{◌≡◌, List, [], ◌∷◌, ◌++◌, refl}
use Rattle.run_record.specs.Event.{Event}
use Rattle.sdl_failures.specs.Ending.{failure_by, failure_in}

pub failure-last : (before : List Event) (last : Event) → failure_in (before ++ last ∷ []) ≡ failure_by last
failure-last [] last = refl
failure-last (one ∷ []) last = refl
failure-last (one ∷ other ∷ rest) last = failure-last (other ∷ rest) last
