-- When the transitions of a process are the table of their bodies.
use Rattle.std.specs.Prelude.{◌≡◌, List, [], Option, Some, map}
use Rattle.build_process.specs.Added.{IsTableIf}
use Rattle.build_process.specs.Bodies.{bodies_of}
use Rattle.build_process.specs.Numbered.{AreNumbered}
use Rattle.build_process.specs.declared.transitions.Transitions.{Transitions}
use Rattle.build_flow.specs.Ends.{ends_faults}
use Rattle.build_statements.specs.Contexts.{Context}
use Rattle.build_statements.specs.Made.{Closed}
use Rattle.sdl_system.specs.Body.{Body}
use Rattle.sdl_tree.specs.Tree.{ProcessDefinition}

-- Where each transition has a body, none has a path to its end without a terminator, and the labels are numbered, the
-- bodies are closed: each path ends, and each join leads to its one label.
abbrev pub BodiesClosed : Type 0
BodiesClosed =
    (context : Context) (process : ProcessDefinition) (bodies : List Body)
    → bodies_of context process ≡ map Some bodies → ends_faults process ≡ [] → AreNumbered context process
    → Closed bodies

-- Then the transitions are the table of the bodies.
abbrev pub AreTransitionsOf : Context → ProcessDefinition → Option Transitions → Type 0
AreTransitionsOf context process transitions =
    (bodies : List Body) → bodies_of context process ≡ map Some bodies → ends_faults process ≡ []
    → AreNumbered context process → IsTableIf bodies transitions
