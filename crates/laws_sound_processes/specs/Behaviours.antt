-- When what a process does is sound: each number that stands in it is that of something, and each value fits its place
-- (Z.101: process).
use Rattle.std.specs.Prelude.{◌≡◌, ◌<◌, ℕ, All, List, Some, length, slice_get}
use Rattle.build_process.specs.ProcessScope.{ProcessScope}
use Rattle.build_names.specs.Names.{first_of}
use Rattle.laws_sound_processes.specs.Typed.{IsTypedBody}
use Rattle.laws_sound_runs.specs.States.{LeadsToStates}
use Rattle.laws_sound_processes.specs.States.{IsSoundState}
use Rattle.laws_sound_runs.specs.Scopes.{IsSoundScope}
use Rattle.sdl_system.specs.Behaviour.{Behaviour}
use Rattle.sdl_system.specs.Body.{Body}
use Rattle.sdl_system.specs.Soundness.{IsState}
use Rattle.sdl_system.specs.System.{SystemValue}
use Rattle.sdl_system.specs.declared.id.StateId.{StateId}
use Rattle.sdl_system.specs.declared.process.Process.{Process}

-- each name around the process stands for what is there
pub record IsSoundAround (system : SystemValue) (process : Process) (around : ProcessScope) : Type 0 where
  pub scope : IsSoundScope system process around.scope
  pub states : (text : List ℕ) (state : StateId) → first_of around.states text ≡ Some state → IsState process state
  pub signals : around.signals ≡ length system.signals

-- Statements and states name what is there, and their values fit their places; transitions lead to states.
pub record IsSoundBehaviour (system : SystemValue) (process : Process) (p : Behaviour) : Type 0 where
  pub bodies : (number : ℕ) (b : Body) → slice_get p.bodies number ≡ Some b → IsTypedBody system process b
  pub start : p.start < length p.bodies
  pub leads : LeadsToStates p
  pub states : All (IsSoundState system process (length p.bodies)) p.states
