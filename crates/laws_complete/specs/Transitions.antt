-- Transitions in which no rule is broken have their bodies (Z.101: start, input, connection; Z.102: transition).
use Rattle.std.specs.Prelude.{◌≡◌, List, [], Some, map}
use Rattle.build_process.specs.Bodies.{bodies_faults, bodies_of}
use Rattle.build_process.specs.Numbered.{AreNumbered}
use Rattle.laws_complete.specs.Complete.{HasDurations, IsComplete}
use Rattle.build_statements.specs.Contexts.{Context}
use Rattle.sdl_system.specs.Body.{Body}
use Rattle.sdl_tree.specs.Tree.{ProcessDefinition}

-- Where no rule is broken in the transitions of a process, each has its body.
abbrev pub BodiesGiven : Type 0
BodiesGiven = (context : Context) (process : ProcessDefinition) → IsComplete context.scope → HasDurations context →
    AreNumbered context process → bodies_faults context process ≡ [] →
    (bodies : List Body) × (bodies_of context process ≡ map Some bodies)
