-- The whole of a run between two happenings (Z.101: system, agent), for any number of instances.
use Rattle.std.specs.Prelude.{◌+◌, ℕ, zero, suc, nat_le, false, List, [], ◌∷◌, ◌++◌, Option, None, Some, if◌then◌else◌, length, map, replicate, slice_get, slice_set}
use Rattle.port_model.specs.declared.inbox.entry.Fuse.{Fuse}
use Rattle.port_model.specs.declared.values.item.Item.{Item}
use Rattle.port_model.specs.declared.values.pid.Pid.TheVariants.{Of}
use Rattle.port_model.specs.declared.values.value.Value.{Value}
use Rattle.run_record.specs.declared.evaluation.identity.Identity.{Identity}
use Rattle.run_order.specs.Roster.{RosterValue, all_entered, living_in_all, with_entered, with_left}
use Rattle.run_order.specs.declared.member.Member.{Member}
use Rattle.run_order.specs.declared.pending.Pending.{Pending}
use Rattle.run_order.specs.declared.pending.Pending.TheVariants as pending
use Rattle.run_semantics.specs.World.{Living, WorldValue}
use Rattle.sdl_interp.specs.Instance.{InstanceValue}
use Rattle.sdl_script.specs.Script.{end_of}
use Rattle.sdl_script.specs.declared.script.ScriptLine.{ScriptLine}
use Rattle.sdl_script.specs.declared.script.ScriptSignal.{ScriptSignal}
use Rattle.sdl_system.specs.Route.{target_in}
use Rattle.sdl_system.specs.System.{SystemValue}
use Rattle.sdl_system.specs.declared.id.ProcessId.{ProcessId}
use Rattle.sdl_system.specs.declared.process.Process.{Process}
use Rattle.sdl_system.specs.declared.route.Source.TheVariants as source
use Rattle.sdl_system.specs.declared.route.Target.{Target}
use Rattle.sdl_system.specs.declared.route.Target.TheVariants.{Instance}
use Rattle.sdl_timers.specs.DueOrder.{with_fuse}
use Rattle.serial_order.specs.RunState.{first_instances, instance_of, with_expiry, with_put}

-- The system that is run, the clock in ticks, the instances by ascending number, the first one with the number 1, who
-- of them lives, the fuses that wait for their time, in due order, and what is left of the script. What is due before
-- `until` is to be done now. The last line of the whole script has the time `end`.
pub record OrderState : Type 0 where
  pub system : SystemValue
  pub clock : ℕ
  pub until : ℕ
  pub members : List Member
  pub roster : RosterValue
  pub fuses : List Fuse
  pub script : List ScriptLine
  pub end : ℕ

-- who lives now
abbrev pub living_of : OrderState → Living
living_of g = living_in_all g.roster (length g.members)

-- What an instance sees of the whole, as its step begins: the clock. Who lives isn't asked before what the step does
-- outside is done.
abbrev pub world_at : OrderState → WorldValue
world_at g = record { system = g.system; clock = Some g.clock; living = None; effects = Some []; sent = None }

-- ---- instances by their numbers

-- the instance of a number, from 1 on
abbrev pub member_at : List Member → ℕ → Option Member
member_at members zero = None
member_at members (suc place) = slice_get members place

-- the instances, with another value of the one of this number
abbrev pub with_member : List Member → ℕ → Member → List Member
with_member members zero changed = members
with_member members (suc place) changed = slice_set members place changed

-- the instances, where that of a number is changed in this way; a number that nobody has changes nothing
abbrev pub changed_at : (InstanceValue → InstanceValue) → List Member → ℕ → Option Member → List Member
changed_at change members number None = members
changed_at change members number (Some m) = with_member members number (record m { instance = change m.instance })

abbrev pub change_at : (InstanceValue → InstanceValue) → List Member → ℕ → List Member
change_at change members number = changed_at change members number (member_at members number)

-- an instance that has done nothing yet
abbrev pub fresh : InstanceValue → Member
fresh i = record { instance = i; pending = []; looked = false }

-- ---- what is done to them

-- a signal reaches its target: what goes to the environment, to null, to nobody or to a number that nobody has is gone
abbrev pub sent_to : OrderState → Target → Item → OrderState
sent_to g (Instance number) item = record g { members = change_at (with_put item) g.members number }
sent_to g target item = g

-- a fuse expires in the port of its instance
abbrev pub expired : OrderState → Fuse → OrderState
expired g fuse = record g { members = change_at (with_expiry fuse g.clock) g.members fuse.pid }

-- a fuse whose time has come expires at once, another waits
abbrev pub armed : OrderState → Fuse → OrderState
armed g fuse = if nat_le fuse.due g.clock then expired g fuse else record g { fuses = with_fuse fuse g.fuses }

-- one instance of the process more, with a port of its own, which lives; none where there is no such process
abbrev pub with_created : OrderState → Identity → List Value → Option Process → OrderState
with_created g who values None = g
with_created g who values (Some process) = record g {
  members = g.members ++ fresh (instance_of g.system process who values) ∷ [];
  roster = with_entered g.roster who.process who.pid;
}

abbrev pub created : OrderState → ProcessId → ℕ → ℕ → List Value → OrderState
created g process number parent values =
    with_created g (record { process = process; pid = number; parent = Of parent }) values
    (slice_get g.system.processes process.0)

-- what an instance has to do outside is done
abbrev pub after_pending : OrderState → Identity → Pending → OrderState
after_pending g who (pending.Send to target item) = sent_to g target item
after_pending g who (pending.Arm fuse) = armed g fuse
after_pending g who (pending.Create process number parent values) = created g process number parent values
after_pending g who (pending.Full process) = g
after_pending g who pending.End = record g { roster = with_left g.roster who.process who.pid }
after_pending g who pending.Inside = g

-- a signal of the script is sent, if there is one: it goes where the routes lead it by those who live now
abbrev pub heard : OrderState → Option ScriptSignal → OrderState
heard g None = g
heard g (Some signal) =
    sent_to g (target_in g.system.routes signal.item.name source.Env signal.to (living_of g).least) signal.item

-- ---- the beginning

-- a run before its first step: all first instances live, and nothing of the script is heard before all have rested
abbrev pub beginning : SystemValue → List ScriptLine → OrderState
beginning system lines =
    let first = first_instances system 1 0 system.processes in
    record {
      system = system;
      clock = 0;
      until = 0;
      members = map fresh first;
      roster = all_entered (replicate (length system.processes) []) first;
      fuses = [];
      script = lines;
      end = end_of lines;
    }
