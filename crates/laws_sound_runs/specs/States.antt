-- Transitions that lead to states (Z.102: nextstate).
use Rattle.std.specs.Prelude.{◌≡◌, ◌<◌, ℕ, None, Some, length, slice_get}
use Rattle.run_semantics.specs.ControlPoint.{Definition, Doing, IsState, ControlPoint}
use Rattle.laws_sound_runs.specs.Paths.{Every, Reaches}
use Rattle.sdl_system.specs.Behaviour.{Behaviour}
use Rattle.sdl_system.specs.Body as body
use Rattle.sdl_system.specs.Body.{Action, Body, Terminator}
use Rattle.sdl_system.specs.Term.{Term}

-- it leads to one of so many states, if it names one
abbrev pub IsLed : ℕ → Terminator → Type 0
IsLed count (body.to_state state) = state.0 < count
IsLed count (body.join label) = Unit {0}
IsLed count body.to_same = Unit {0}
IsLed count body.stop = Unit {0}

-- so does each in the body
abbrev pub AreLed : ℕ → Body → Type 0
AreLed count b = Every (λ (first : Action). Unit {0}) (λ (question : Term). Unit {0}) (IsLed count) b

-- Each `nextstate` in the bodies leads to a state of the process, and no path from the start comes to one that leads to
-- the state from which its transition began.
pub record LeadsToStates (p : Behaviour) : Type 0 where
  pub led : (number : ℕ) (b : Body) → slice_get p.bodies number ≡ Some b → AreLed (length p.states) b
  pub stays : (first : Body) → slice_get p.bodies p.start ≡ Some first → Reaches p.bodies body.to_same first → ⊥

-- a `nextstate` at this place leads to no state of the process
abbrev pub LeadsNowhere : Definition → ControlPoint → Type 0
LeadsNowhere d (Doing origin (body.ending (body.to_state n))) = IsState d n → ⊥
LeadsNowhere d (Doing None (body.ending body.to_same)) = Unit {0}
LeadsNowhere d (Doing (Some n) (body.ending body.to_same)) = IsState d n → ⊥
LeadsNowhere d place = ⊥
