use Rattle.std.proofs.Common.{◌≡◌, List, Ok, Some, map, take}
use Rattle.run_record.specs.Knowledge.{environment_of}
use Rattle.run_record.specs.Value.{truth_at}
use Rattle.sdl_interp.specs.Condition.{are_conditions}
use Rattle.sdl_system.specs.Term.{Term}
use Rattle.sdl_interp.proofs.condition.truths.Given as goal

abbrev pub invariant-loop-enabling : goal.invariant-loop-enabling
invariant-loop-enabling g l =
    (terms : List Term) → are_conditions l.process l.conditions ≡ map Some terms
    → map (truth_at
    (environment_of l.knowledge))
    (take l.enabling-index terms)
    ≡ map Ok l.truths.items
