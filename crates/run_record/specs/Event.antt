-- What an instance does (Z.101: agent, transition; Z.102: input, output, timer, create).
use Rattle.std.specs.Prelude.{ℕ, Bool, true, false, List, [], ◌∷◌, ◌++◌, None, Option, Some, option_to_list}
use Rattle.port_model.specs.declared.got.Got as got
use Rattle.port_model.specs.declared.got.Got.TheVariants as came
use Rattle.port_model.specs.declared.values.item.SignalId.{SignalId}
use Rattle.port_model.specs.declared.values.timer_key.TimerKey.{TimerKey}
use Rattle.port_model.specs.declared.values.value.Value.{Value}
use Rattle.sdl_system.specs.declared.id.ProcessId.{ProcessId}
use Rattle.sdl_system.specs.declared.id.StateId.{StateId}
use Rattle.sdl_system.specs.declared.id.VariableId.{VariableId}
use Rattle.sdl_system.specs.declared.route.Dest.{Dest}
use Rattle.sdl_system.specs.declared.route.Target.{Target}
use Rattle.sdl_system.specs.declared.route.Target.TheVariants.{Instance}
use Rattle.run_record.specs.declared.failure.Failure.{Failure}

-- An event; times are in ticks. A transition begins with the start, with what was got from the port, be it by an input
-- or a priority input, or with a continuous signal, which has its number from 1 in the order of the text. What is
-- discarded begins one that does nothing. FailedAt is a failure in a condition or a take, Failed one in a transition.
-- An output has the destination that it names and whom the signal reached, a set its timer and the due time, a create
-- the number of the new instance, or none where no instance was made. Rest and Cut are how a record closes where the
-- instance lives on, Cut without a state before the start.
pub data Event : Type 0 where
  Start : ℕ → Event
  Consumed : ℕ → got.Got → Event
  Prior : ℕ → got.Got → Event
  Discarded : ℕ → got.Got → Event
  Provided : ℕ → ℕ → Event
  FailedAt : ℕ → Failure → Event
  Task : VariableId → Value → Event
  Output : SignalId → Dest → List Value → Target → Event
  Set : TimerKey → ℕ → Event
  Reset : TimerKey → Event
  Create : ProcessId → Option ℕ → Event
  NextState : StateId → Event
  Stop : Event
  Failed : Failure → Event
  Rest : StateId → Event
  Cut : Option StateId → Event

-- whether a transition begins with the event; each counts once for the limit of a run
abbrev pub is_beginning : Event → Bool
is_beginning (Start at) = true
is_beginning (Consumed at got) = true
is_beginning (Prior at got) = true
is_beginning (Discarded at got) = true
is_beginning (Provided at number) = true
is_beginning _ = false

-- the values that came with a signal or a timer
abbrev pub values_got : got.Got → List Value
values_got (came.Signal item) = item.values
values_got (came.Timer key) = key.values

-- the values of an event for which a record has a table
abbrev pub values_of : Event → List Value
values_of (Consumed at got) = values_got got
values_of (Prior at got) = values_got got
values_of (Discarded at got) = values_got got
values_of (Output signal to values target) = values
values_of (Set key due) = key.values
values_of (Reset key) = key.values
values_of _ = []

-- ---- whom outputs reach

-- the instance to which a signal goes
abbrev pub receiver_of : Event → Option ℕ
receiver_of (Output signal to values (Instance number)) = Some number
receiver_of _ = None

-- those to which signals go, in the order of the outputs
abbrev pub receivers : List Event → List ℕ
receivers [] = []
receivers (one ∷ rest) = option_to_list (receiver_of one) ++ receivers rest
