-- Where an instance is in its behaviour (Z.101: agent; Z.102: state, transition).
use Rattle.std.specs.Prelude.{◌<◌, List, Option, length}
use Rattle.port_model.specs.declared.values.value.Value.{Value}
use Rattle.sdl_system.specs.Behaviour.{Behaviour}
use Rattle.sdl_system.specs.Body.{Action, Body}
use Rattle.sdl_system.specs.System.{SystemValue}
use Rattle.sdl_system.specs.declared.id.StateId.{StateId}
use Rattle.sdl_system.specs.declared.id.VariableId.{VariableId}

-- what is run: the system, and what the process of the instance means
pub record Definition : Type 0 where
  pub system : SystemValue
  pub behaviour : Behaviour

-- a state of the process
abbrev pub IsState : Definition → StateId → Type 0
IsState d state = state.0 < length d.behaviour.states

-- Before the start; in a state; where the values of a signal go to the variables of its input, and a body is next; in a
-- transition, at a body, or in the midst of an action, which names what is left of its list, with a body behind it;
-- ended; or with the record closed. A transition knows the state from which it began; the start began in none.
pub data ControlPoint : Type 0 where
  AtStart : ControlPoint
  In : (state : StateId) → ControlPoint
  Receiving : (origin : Option StateId) (variables : List (Option VariableId)) (values : List Value) (body : Body)
      → ControlPoint
  Doing : (origin : Option StateId) (body : Body) → ControlPoint
  Amid : (origin : Option StateId) (action : Action) (rest : Body) → ControlPoint
  Ended : ControlPoint
  Closed : ControlPoint
