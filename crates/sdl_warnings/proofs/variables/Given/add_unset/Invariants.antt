use Rattle.std.proofs.Common.{◌≡◌, ◌++◌, ◌||◌, List, ℕ, Bool, drop, map, not}
use Rattle.sdl_warnings.specs.Heads.{head_value}
use Rattle.sdl_warnings.specs.Missing.{missing}
use Rattle.sdl_warnings.specs.Sets.{has}
use Rattle.sdl_warnings.specs.declared.suspicion.Suspicion.TheVariants.{UnsetVariable}
use Rattle.sdl_warnings.specs.declared.variables.Given.{Given}
use Rattle.sdl_warnings.proofs.variables.Given.add_unset.Given as goal

abbrev settles : Given → List ℕ → Bool
settles given text = not (has given.again text) || (has given.assigned text || has given.received text)

abbrev pub invariant-loop-head : goal.invariant-loop-head
invariant-loop-head l =
    l.found.items ++ missing UnsetVariable (settles l.self) (map head_value (drop l.head-index l.variables))
    ≡ l.fn.found.items ++ missing UnsetVariable (settles l.self) (map head_value l.variables)
