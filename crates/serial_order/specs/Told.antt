-- What the list of all that happened tells of each instance: its record, and the history of its port.
use Rattle.std.specs.Prelude.{◌≡◌, ◌==◌, ◌&&◌, ◌+◌, ℕ, nat_le, nat_lt, Bool, true, false, List, [], ◌∷◌, ◌++◌, Some, if◌then◌else◌, length}
use Rattle.port_model.specs.declared.inbox.entry.Fuse.{Fuse}
use Rattle.port_model.specs.History.{Expire, PortEvent, Put}
use Rattle.port_model.specs.Port.{empty_port}
use Rattle.port_model.specs.declared.values.item.Item.{Item}
use Rattle.port_model.specs.declared.values.pid.Pid.{Pid}
use Rattle.port_model.specs.declared.values.pid.Pid.TheVariants.{Env, Of}
use Rattle.port_model.specs.declared.values.value.Value.{Value}
use Rattle.serial_order.specs.Execution.{Expired, Happening, Heard, IsMeant, Moved, Ticked}
use Rattle.serial_order.specs.RunState.{RunState, beginning, instance_at}
use Rattle.sdl_interp.specs.Instance.{InstanceValue}
use Rattle.run_semantics.specs.Effect.{Effect, Arm, Create, Deed, Send, effects_of, calls_of, events_of}
use Rattle.run_semantics.specs.Instance.{first_store}
use Rattle.run_semantics.specs.ControlPoint.{AtStart}
use Rattle.run_semantics.specs.Runs.{Runs}
use Rattle.sdl_script.specs.declared.script.ScriptLine.{ScriptLine}
use Rattle.sdl_interp.specs.Machine.{place_of}
use Rattle.sdl_system.specs.Behaviour.{Behaviour}
use Rattle.sdl_system.specs.System.{SystemValue}
use Rattle.sdl_system.specs.declared.route.Target.{Target}
use Rattle.sdl_system.specs.declared.route.Target.TheVariants.{Instance}

-- ---- the deeds of an instance

-- the deeds of the instance with this number
abbrev pub deeds_of_one : ℕ → Happening → List Deed
deeds_of_one n (Moved who deeds) = if who.pid == n then deeds else []
deeds_of_one n happened = []

abbrev pub deeds_of : ℕ → List Happening → List Deed
deeds_of n [] = []
deeds_of n (first ∷ rest) = deeds_of_one n first ++ deeds_of n rest

-- ---- what comes to an instance from outside

-- how many numbers were given, and the clock's time, as something happens
pub record Moment : Type 0 where
  pub given : ℕ
  pub clock : ℕ

-- whether the instance with this number is there
abbrev pub is_there : ℕ → Moment → Bool
is_there n now = nat_lt 0 n && nat_le n now.given

-- what an act puts into the port of the instance with this number: a signal that is sent to it, and a timer that was
-- set to a time that has come
abbrev pub put_by : ℕ → Target → Item → List PortEvent
put_by n (Instance number) item = if number == n then Put item ∷ [] else []
put_by n target item = []

abbrev pub expiry_by : ℕ → ℕ → Fuse → List PortEvent
expiry_by n at fuse = if fuse.pid == n then Expire fuse.key fuse.arm fuse.due at ∷ [] else []

abbrev pub comes_by_one : ℕ → Moment → Effect → List PortEvent
comes_by_one n now (Send target item) = if is_there n now then put_by n target item else []
comes_by_one n now (Arm fuse) = if is_there n now && nat_le fuse.due now.clock then expiry_by n now.clock fuse else []
comes_by_one n now (Create process number parent values) = []

-- an instance that is made is there
abbrev pub given_after_one : ℕ → Effect → ℕ
given_after_one given (Create process number parent values) = given + 1
given_after_one given effect = given

abbrev pub given_after : ℕ → List Effect → ℕ
given_after given [] = given
given_after given (effect ∷ rest) = given_after (given_after_one given effect) rest

abbrev pub comes_by : ℕ → Moment → List Effect → List PortEvent
comes_by n now [] = []
comes_by n now (effect ∷ rest) =
    comes_by_one n now effect ++ comes_by n (record now { given = given_after_one now.given effect }) rest

-- ---- the history of its port

-- what happens to the port of the instance with this number: its own calls, and what comes from outside
abbrev pub history_of_one : ℕ → Moment → Happening → List PortEvent
history_of_one n now (Moved who deeds) = (if who.pid == n then calls_of deeds else []) ++ comes_by n now (effects_of deeds)
history_of_one n now (Expired fuse) = if is_there n now then expiry_by n now.clock fuse else []
history_of_one n now (Heard line effects) = comes_by n now effects
history_of_one n now (Ticked time) = []

abbrev pub moment_after : Moment → Happening → Moment
moment_after now (Moved who deeds) = record now { given = given_after now.given (effects_of deeds) }
moment_after now (Expired fuse) = now
moment_after now (Heard line effects) = record now { given = given_after now.given effects }
moment_after now (Ticked time) = record now { clock = time }

abbrev pub history_from : ℕ → Moment → List Happening → List PortEvent
history_from n now [] = []
history_from n now (first ∷ rest) = history_of_one n now first ++ history_from n (moment_after now first) rest

-- the moment at which a run of the system begins
abbrev pub first_moment : SystemValue → Moment
first_moment system = record { given = length (beginning system []).instances; clock = 0 }

abbrev pub history_of : SystemValue → ℕ → List Happening → List PortEvent
history_of system n happenings = history_from n (first_moment system) happenings

-- ---- what is told

-- The record of an instance is what is told, and it is a run of its process on the history of its port that is told:
-- its own calls, a put of each signal that was sent to it, when it was sent, and an expiry of each of its timers, when
-- its fuse expired.
pub record IsTold (ps : List Behaviour) (i : InstanceValue) (deeds : List Deed) (history : List PortEvent)
    : Type 0 where
  pub p : Behaviour
  pub values : List Value
  pub meant : IsMeant ps i p
  pub recorded : i.events ≡ events_of deeds
  pub runs : Runs (record { system = i.system; behaviour = p }) i.who AtStart (first_store p values) empty_port deeds
      history (place_of i.position) i.store i.owner.state

-- so it is for each number that an instance has, and it has that number
pub record AreTold (ps : List Behaviour) (system : SystemValue) (happenings : List Happening)
    (last : RunState) : Type 0 where
  pub numbers : (n : ℕ) (i : InstanceValue) → instance_at last.instances n ≡ Some i → i.who.pid ≡ n
  pub each : (n : ℕ) (i : InstanceValue) → instance_at last.instances n ≡ Some i
      → IsTold ps i (deeds_of n happenings) (history_of system n happenings)

-- ---- each signal once, and in order

-- the signals that were put, in their order, and those among them of one sender
abbrev pub puts_of : List PortEvent → List Item
puts_of [] = []
puts_of (Put item ∷ rest) = item ∷ puts_of rest
puts_of (call ∷ rest) = puts_of rest

abbrev pub is_from : Pid → Pid → Bool
is_from (Of number) (Of other) = other == number
is_from Env Env = true
is_from one sender = false

abbrev pub from : Pid → List Item → List Item
from one [] = []
from one (item ∷ rest) = if is_from one item.sender then item ∷ from one rest else from one rest

-- the acts of the instance with this number, and those of the environment
abbrev pub effects_by : Pid → Happening → List Effect
effects_by (Of m) (Moved who deeds) = if who.pid == m then effects_of deeds else []
effects_by Env (Heard line effects) = effects
effects_by sender happened = []

-- the signals that a sender sends to the instance with this number, while that is there, in their order
abbrev pub sends_from : Pid → ℕ → Moment → List Happening → List Item
sends_from sender n now [] = []
sends_from sender n now (first ∷ rest) =
    puts_of (comes_by n now (effects_by sender first)) ++ sends_from sender n (moment_after now first) rest

-- What was put of a sender into the port of an instance is what that sender sent to it: each signal once, and in the
-- same order.
abbrev pub AreMatched : SystemValue → List Happening → Type 0
AreMatched system happenings =
    (sender : Pid) (n : ℕ)
    → from sender (puts_of (history_of system n happenings)) ≡ sends_from sender n (first_moment system) happenings

-- ---- the script

abbrev pub lines_of_one : Happening → List ScriptLine
lines_of_one (Heard line effects) = line ∷ []
lines_of_one happened = []

abbrev pub lines_of : List Happening → List ScriptLine
lines_of [] = []
lines_of (first ∷ rest) = lines_of_one first ++ lines_of rest
