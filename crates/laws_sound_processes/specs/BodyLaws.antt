-- Bodies are sound: their statements name what is there, with values that fit their places, and no path from the start
-- comes to a `nextstate -` (Z.101: start; Z.102: transition, nextstate).
use Rattle.std.specs.Prelude.{◌≡◌, ℕ, List, [], Some, map, slice_get}
use Rattle.build_process.specs.Bodies.{bodies_of}
use Rattle.build_process.specs.Numbered.{AreNumbered}
use Rattle.build_flow.specs.Beginnings.{beginnings}
use Rattle.build_flow.specs.Reach.{AreReached}
use Rattle.build_flow.specs.Stays.{stay_faults}
use Rattle.build_statements.specs.Contexts.{Context}
use Rattle.build_statements.specs.Transitions.{body_in}
use Rattle.laws_sound_processes.specs.Typed.{IsSoundContext, IsTypedAction, IsTypedBody}
use Rattle.laws_sound_runs.specs.Paths.{Reaches}
use Rattle.sdl_system.specs.Body as body
use Rattle.sdl_system.specs.Body.{Action, Body}
use Rattle.sdl_system.specs.Soundness.{IsSoundAction}
use Rattle.sdl_system.specs.System.{SystemValue}
use Rattle.sdl_system.specs.declared.process.Process.{Process}
use Rattle.sdl_tree.specs.Tree.{ProcessDefinition, Transition}

-- What a transition does, where names stand for what is there, names what is there, and its values fit their places.
abbrev pub TransitionsAreTyped : Type 0
TransitionsAreTyped =
    (system : SystemValue) (process : Process) (context : Context) (transition : Transition) (whole : Body)
    → IsSoundContext system process context → body_in context transition ≡ Some whole
    → IsTypedBody system process whole

-- So does each body of a process.
abbrev pub BodiesAreTyped : Type 0
BodiesAreTyped =
    (system : SystemValue) (process : Process) (context : Context) (definition : ProcessDefinition)
    (bodies : List Body) (number : ℕ) (whole : Body) → IsSoundContext system process context
    → bodies_of context definition ≡ map Some bodies → slice_get bodies number ≡ Some whole
    → IsTypedBody system process whole

-- An action whose values fit their places has as many values as it takes.
abbrev pub TypedActionsAreSound : Type 0
TypedActionsAreSound =
    (system : SystemValue) (process : Process) (action : Action) → IsTypedAction system process action
    → IsSoundAction system process action

-- Where no `nextstate -` is told that the start reaches, no path from the start comes to one.
abbrev pub StartLeadsOn : Type 0
StartLeadsOn =
    (context : Context) (definition : ProcessDefinition) (names : List (List ℕ)) (bodies : List Body) (first : Body)
    → bodies_of context definition ≡ map Some bodies → AreNumbered context definition
    → AreReached (beginnings definition) names → stay_faults (beginnings definition) names ≡ []
    → slice_get bodies 0 ≡ Some first → Reaches bodies body.to_same first → ⊥
