-- The whole of a run between two steps (Z.101: system, agent), for any number of instances.
use Rattle.std.specs.Prelude.{◌&&◌, ◌+◌, ◌==◌, ℕ, zero, suc, nat_le, Bool, true, false, not, List, [], ◌∷◌, ◌++◌, Option, None, Some, count_by, if◌then◌else◌, length, map, slice_get, slice_set}
use Rattle.std.specs.List.{range_with_len}
use Rattle.port_model.specs.Calls.{after_entry}
use Rattle.port_model.specs.Ends.{single}
use Rattle.port_model.specs.declared.inbox.entry.Entry.TheVariants.{Timer}
use Rattle.port_model.specs.declared.inbox.entry.Fuse.{Fuse}
use Rattle.port_model.specs.Port.{empty_port, put_into}
use Rattle.port_model.specs.declared.values.item.Item.{Item}
use Rattle.port_model.specs.declared.values.pid.Pid.TheVariants.{Null, Of}
use Rattle.port_model.specs.declared.values.value.Value.{Value}
use Rattle.run_record.specs.declared.evaluation.identity.Identity.{Identity}
use Rattle.sdl_interp.specs.Instance.{InstanceValue, created}
use Rattle.run_semantics.specs.Effect.{Effect, Arm, Create, Send}
use Rattle.run_semantics.specs.World.{Living, WorldValue}
use Rattle.sdl_script.specs.declared.script.ScriptLine.{ScriptLine}
use Rattle.sdl_script.specs.declared.script.ScriptSignal.{ScriptSignal}
use Rattle.sdl_interp.specs.declared.transitions.machine.Position.{Position}
use Rattle.sdl_interp.specs.declared.transitions.machine.Position.TheVariants.{Ended}
use Rattle.sdl_system.specs.Route.{target_in}
use Rattle.sdl_system.specs.System.{SystemValue}
use Rattle.sdl_system.specs.declared.id.ProcessId.{ProcessId}
use Rattle.sdl_system.specs.declared.process.Process.{Process}
use Rattle.sdl_system.specs.declared.route.Source.TheVariants as source
use Rattle.sdl_system.specs.declared.route.Target.{Target}
use Rattle.sdl_system.specs.declared.route.Target.TheVariants.{Instance}
use Rattle.sdl_timers.specs.DueOrder.{with_fuse}

-- The system that is run, the clock in ticks, the instances by ascending number, the first one with the number 1, the
-- fuses that wait for their time, in due order, and what is left of the script. What is due before `until` is to be
-- done now. The instances step in sweeps by ascending number: the sweep that goes on has the instances up to the number
-- `bound`, which were there when it began, and goes on behind the number `turn`.
pub record RunState : Type 0 where
  pub system : SystemValue
  pub clock : ℕ
  pub until : ℕ
  pub instances : List InstanceValue
  pub turn : ℕ
  pub bound : ℕ
  pub fuses : List Fuse
  pub script : List ScriptLine

-- ---- who lives

abbrev pub is_ended : Position → Bool
is_ended Ended = true
is_ended position = false

-- whether it is an instance of the process that has not ended
abbrev pub lives_of : ℕ → InstanceValue → Bool
lives_of process i = (i.who.process.0 == process) && not (is_ended i.position)

-- the least number of a living instance of the process
abbrev pub least_living : List InstanceValue → ℕ → Option ℕ
least_living [] process = None
least_living (i ∷ rest) process = if lives_of process i then Some i.who.pid else least_living rest process

abbrev pub count_living : List InstanceValue → ℕ → ℕ
count_living instances process = count_by (lives_of process) instances

-- for each process the least number of its living instances and how many live, and how many numbers were given
abbrev pub living_of : SystemValue → List InstanceValue → Living
living_of system instances = record {
  least = map (least_living instances) (range_with_len 0 (length system.processes));
  counts = map (count_living instances) (range_with_len 0 (length system.processes));
  given = length instances;
}

-- what an instance sees of the whole, as its step begins
abbrev pub world_at : RunState → WorldValue
world_at g = record {
  system = g.system;
  clock = Some g.clock;
  living = Some (living_of g.system g.instances);
  effects = Some [];
  sent = None;
}

-- ---- instances by their numbers

-- the instance of a number, from 1 on
abbrev pub instance_at : List InstanceValue → ℕ → Option InstanceValue
instance_at instances zero = None
instance_at instances (suc place) = slice_get instances place

-- the instances, with another value of the one of this number
abbrev pub with_instance : List InstanceValue → ℕ → InstanceValue → List InstanceValue
with_instance instances zero changed = instances
with_instance instances (suc place) changed = slice_set instances place changed

-- the instances, where that of a number is changed in this way; a number that nobody has changes nothing
abbrev pub changed_at : (InstanceValue → InstanceValue) → List InstanceValue → ℕ → Option InstanceValue
    → List InstanceValue
changed_at change instances number None = instances
changed_at change instances number (Some i) = with_instance instances number (change i)

abbrev pub change_at : (InstanceValue → InstanceValue) → List InstanceValue → ℕ → List InstanceValue
change_at change instances number = changed_at change instances number (instance_at instances number)

-- ---- what is done to them

-- a signal is put into the port of an instance; a timer's fuse expires there at a time
abbrev pub with_put : Item → InstanceValue → InstanceValue
with_put item i = record i { owner = record i.owner { state = put_into i.owner.state item } }

abbrev pub with_expiry : Fuse → ℕ → InstanceValue → InstanceValue
with_expiry fuse at i =
    record i { owner = record i.owner { state = after_entry i.owner.pid i.owner.state at (Timer fuse) } }

-- a signal reaches its target: what goes to the environment, to null, to nobody or to a number that nobody has is gone
abbrev pub sent_to : RunState → Target → Item → RunState
sent_to g (Instance number) item = record g { instances = change_at (with_put item) g.instances number }
sent_to g target item = g

-- a fuse whose time has come expires at once, another waits
abbrev pub armed : RunState → Fuse → RunState
armed g fuse =
    if nat_le fuse.due g.clock
    then record g { instances = change_at (with_expiry fuse g.clock) g.instances fuse.pid }
    else record g { fuses = with_fuse fuse g.fuses }

-- an instance of a process before its start, with a port of its own
abbrev pub instance_of : SystemValue → Process → Identity → List Value → InstanceValue
instance_of system process who values = created system process who values (single who.pid empty_port [])

-- the instances, and one of the process more; none where there is no such process
abbrev pub with_created : SystemValue → List InstanceValue → Identity → List Value → Option Process → List InstanceValue
with_created system instances who values None = instances
with_created system instances who values (Some process) = instances ++ instance_of system process who values ∷ []

-- an act of an instance is done
abbrev pub after_effect : RunState → Effect → RunState
after_effect g (Send target item) = sent_to g target item
after_effect g (Arm fuse) = armed g fuse
after_effect g (Create process number parent values) = record g {
  instances = with_created g.system g.instances (record { process = process; pid = number; parent = Of parent }) values
      (slice_get g.system.processes process.0);
}

-- so are several, in their order
abbrev pub after_effects : RunState → List Effect → RunState
after_effects g [] = g
after_effects g (first ∷ rest) = after_effects (after_effect g first) rest

-- what the environment does with a signal of the script: it is sent to its target by the instances that live now
abbrev pub heard_effects : RunState → Option ScriptSignal → List Effect
heard_effects g None = []
heard_effects g (Some signal) =
    Send
    (target_in g.system.routes signal.item.name source.Env signal.to (living_of g.system g.instances).least)
    signal.item ∷ []

-- a fuse expires
abbrev pub expired : RunState → Fuse → RunState
expired g fuse = record g { instances = change_at (with_expiry fuse g.clock) g.instances fuse.pid }

-- ---- the beginning

-- the first of these instances has this number
abbrev pub first_of : SystemValue → ℕ → ProcessId → Process → ℕ → List InstanceValue
first_of system number id process zero = []
first_of system number id process (suc more) =
    instance_of system process (record { process = id; pid = number; parent = Null }) []
    ∷ first_of system (number + 1) id process more

-- the instances with which a system begins: so many of each process as its head says, in the order of the text, all
-- before their start; the first process here has this number
abbrev pub first_instances : SystemValue → ℕ → ℕ → List Process → List InstanceValue
first_instances system number id [] = []
first_instances system number id (process ∷ more) =
    first_of system number (record { 0 = id }) process process.initial
    ++ first_instances system (number + process.initial) (id + 1) more

-- a run before its first step: nothing of the script is heard before all have rested
abbrev pub beginning : SystemValue → List ScriptLine → RunState
beginning system lines = record {
  system = system;
  clock = 0;
  until = 0;
  instances = first_instances system 1 0 system.processes;
  turn = 0;
  bound = length (first_instances system 1 0 system.processes);
  fuses = [];
  script = lines;
}
