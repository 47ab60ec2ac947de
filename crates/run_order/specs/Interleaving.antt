-- A run of agents in one order: one list of all that happens, one after the other (Z.101: agent, system; Z.102: start,
-- input, output, timer, create).
use Rattle.std.specs.Prelude.{◌≡◌, ◌≢◌, ◌+◌, ◌<◌, ◌≤◌, ℕ, Bool, false, true, List, [], ◌∷◌, ◌++◌, All, Option, None, Some, if◌then◌else◌, map}
use Rattle.port_model.specs.declared.inbox.entry.Fuse.{Fuse}
use Rattle.port_model.specs.Timers.{IsLeast, earlier}
use Rattle.port_model.specs.declared.values.item.Item.{Item}
use Rattle.run_record.specs.declared.evaluation.identity.Identity.{Identity}
use Rattle.run_order.specs.declared.member.Member.{Member}
use Rattle.run_order.specs.OrderState.{OrderState, after_pending, expired, heard, living_of, member_at, with_member, world_at}
use Rattle.run_order.specs.Pending.{all_pending, behind_first}
use Rattle.run_order.specs.declared.pending.Pending.{Pending}
use Rattle.run_order.specs.declared.pending.Pending.TheVariants as pending
use Rattle.run_semantics.specs.Effect.{Deed}
use Rattle.run_semantics.specs.Goes.{Goes, IsOneStep}
use Rattle.run_semantics.specs.World.{WorldValue, number_for}
use Rattle.sdl_interp.specs.Machine.{place_of}
use Rattle.sdl_interp.specs.declared.transitions.machine.Position.TheVariants.{Ended}
use Rattle.sdl_interp.specs.Instance.{InstanceValue, Keeps, work_of}
use Rattle.sdl_script.specs.declared.script.ScriptLine.{ScriptLine}
use Rattle.sdl_system.specs.Behaviour.{Behaviour}
use Rattle.sdl_system.specs.Route.{target_in}
use Rattle.sdl_system.specs.declared.route.Dest.{Dest}
use Rattle.sdl_system.specs.declared.route.Source.TheVariants as source
use Rattle.sdl_system.specs.declared.route.Target.{Target}
use Rattle.serial_order.specs.Execution.{IsMeant, IsNoFuseBefore, IsNoLineBefore, Rests, is_transition, next_line}

-- The inside of a step is one moment: an instance takes from its port, computes, and changes its port. What the step
-- does outside is done later, one thing after the other, and other instances may do something between.
--
-- An instance began a step with these deeds; it looked up where its next output goes; the next event of its step was
-- told, with what that does outside; a line of the script was heard; a fuse expired; or the clock moved to a time.
pub data Happening : Type 0 where
  Moved : (who : Identity) (deeds : List Deed) → Happening
  Looked : (number : ℕ) → Happening
  Told : (number : ℕ) (what : Pending) → Happening
  Heard : (line : ScriptLine) → Happening
  Expired : (fuse : Fuse) → Happening
  Ticked : (time : ℕ) → Happening

-- nothing is to be done by the environment before the next step
pub record IsNothingDue (g : OrderState) : Type 0 where
  pub fuses : IsNoFuseBefore g.until g.fuses
  pub lines : IsNoLineBefore g.until g.script

-- ---- instances

-- A living instance that has done all that its latest step does outside makes one step: one whole transition, a
-- discard, or what fails the instance in a state. Nothing is due. It sees the clock. Its port is a plain one, from
-- which it takes by the selection that its state has. What it does outside is still to be done.
pub record Moves (ps : List Behaviour) (g : OrderState) (who : Identity) (deeds : List Deed) (h : OrderState)
    : Type 0 where
  pub old : Member
  pub new : InstanceValue
  pub p : Behaviour
  pub world : WorldValue
  pub is_there : member_at g.members who.pid ≡ Some old
  pub is_who : old.instance.who ≡ who
  pub of_system : old.instance.system ≡ g.system
  pub lives : old.instance.position ≢ Ended
  pub all_done : old.pending ≡ []
  pub nothing_due : IsNothingDue g
  pub meant : IsMeant ps old.instance p
  pub keeps : Keeps old.instance new
  pub undrawn : new.owner.drawn ≡ []
  pub goes : Goes (IsOneStep (is_transition deeds)) (record { system = old.instance.system; behaviour = p })
      (place_of old.instance.position) (work_of old.instance) (world_at g) (place_of new.position) (work_of new) world
  pub deeds_are : goes.deeds ≡ deeds
  pub now : h ≡ record g {
    members = with_member g.members who.pid (record {
      instance = new;
      pending = behind_first (all_pending deeds);
      looked = false;
    });
  }

-- The next thing that an instance has to do is an output, and its signal goes where the routes lead it by those who
-- live now. They may change before it is put.
pub record Looks (g : OrderState) (number : ℕ) (h : OrderState) : Type 0 where
  pub old : Member
  pub to : Dest
  pub target : Target
  pub item : Item
  pub later : List Pending
  pub is_there : member_at g.members number ≡ Some old
  pub next : old.pending ≡ pending.Send to target item ∷ later
  pub goes : target ≡ target_in g.system.routes item.name (source.Process old.instance.who.process) to
      (living_of g).least
  pub now : h ≡ record g { members = with_member g.members number (record old { looked = true }) }

-- What has to be so when it is done: an output was looked up; a create makes an instance with the next number, where
-- fewer live than may; and one that made none stands where as many live as may, or all numbers were given.
abbrev pub MayTell : OrderState → Bool → Pending → Type 0
MayTell g looked (pending.Send to target item) = looked ≡ true
MayTell g looked (pending.Create process number parent values) =
    number_for g.system (living_of g) process ≡ Some number
MayTell g looked (pending.Full process) = number_for g.system (living_of g) process ≡ None
MayTell g looked what = Unit {0}

-- The next event of an instance is told, and what it does outside is done.
pub record Tells (g : OrderState) (number : ℕ) (what : Pending) (h : OrderState) : Type 0 where
  pub old : Member
  pub later : List Pending
  pub is_there : member_at g.members number ≡ Some old
  pub next : old.pending ≡ what ∷ later
  pub may : MayTell g old.looked what
  pub now : h ≡ after_pending
      (record g {
        members = with_member g.members number (record old { pending = later; looked = false });
      })
      old.instance.who what

-- ---- the environment

-- the next line of the script is heard in its time, when no fuse is due any more
pub record Hears (g : OrderState) (line : ScriptLine) (h : OrderState) : Type 0 where
  pub later : List ScriptLine
  pub next : g.script ≡ line ∷ later
  pub due : line.at < g.until
  pub no_fuse : IsNoFuseBefore g.until g.fuses
  pub now : h ≡ heard (record g { script = later }) line.signal

-- the first fuse in due order expires, whose time has come
pub record Expires (g : OrderState) (fuse : Fuse) (h : OrderState) : Type 0 where
  pub later : List Fuse
  pub first : g.fuses ≡ fuse ∷ later
  pub due : fuse.due < g.until
  pub now : h ≡ expired (record g { fuses = later }) fuse

-- an instance rests, and has done all that its latest step does outside
abbrev pub IsDoneAndRests : List Behaviour → Member → Type 0
IsDoneAndRests ps m = Rests ps m.instance × (m.pending ≡ [])

-- All instances rest, nothing is due, and the clock moves to the sooner of the least time of a fuse and the next
-- line's; where no line is left, not past the last line's. What is due then is to be done.
pub record Ticks (ps : List Behaviour) (g : OrderState) (time : ℕ) (h : OrderState) : Type 0 where
  pub due : Option ℕ
  pub nothing_due : IsNothingDue g
  pub rest : All (IsDoneAndRests ps) g.members
  pub least : IsLeast (map (λ (fuse : Fuse). fuse.due) g.fuses) due
  pub is_next : earlier due (next_line g.script) ≡ Some time
  pub within : g.script ≡ [] → time ≤ g.end
  pub now : h ≡ record g { clock = time; until = time + 1 }

-- ---- all of them

-- one happening leads from a state of the whole to another
abbrev pub Follows : List Behaviour → OrderState → Happening → OrderState → Type 0
Follows ps g (Moved who deeds) h = Moves ps g who deeds h
Follows ps g (Looked number) h = Looks g number h
Follows ps g (Told number what) h = Tells g number what h
Follows ps g (Heard line) h = Hears g line h
Follows ps g (Expired fuse) h = Expires g fuse h
Follows ps g (Ticked time) h = Ticks ps g time h

-- a run from one state of the whole to another, one happening after the other
pub data Interleaving (ps : List Behaviour) (from : OrderState) : List Happening → OrderState → Type 0 where
  begins : Interleaving ps from [] from
  goes : {happenings : List Happening} {at : OrderState} → Interleaving ps from happenings at → (next : Happening)
      (to : OrderState) → Follows ps at next to → Interleaving ps from (happenings ++ next ∷ []) to

-- ---- whose event is told

-- The number of the instance of which a happening tells the next event; 0 where it tells the next line of the script.
abbrev pub teller_of : Happening → List ℕ
teller_of (Moved who deeds) = if is_transition deeds then who.pid ∷ [] else []
teller_of (Told number what) = number ∷ []
teller_of (Heard line) = 0 ∷ []
teller_of happened = []

abbrev pub tellers_of : List Happening → List ℕ
tellers_of [] = []
tellers_of (first ∷ rest) = teller_of first ++ tellers_of rest

-- ---- who did it

-- An instance began a transition; an instance did something else; or the environment did something, or the clock moved.
pub data Part : Type 0 where
  Transition : Part
  Within : Part
  Around : Part

abbrev pub part_of : Happening → Part
part_of (Moved who deeds) = if is_transition deeds then Transition else Within
part_of (Looked number) = Within
part_of (Told number what) = Within
part_of (Heard line) = Around
part_of (Expired fuse) = Around
part_of (Ticked time) = Around

-- Nothing was heard, no fuse expired and the clock stood since the last transition began, or since the beginning.
pub data EndsInTransition : List Happening → Type 0 where
  begins_nothing : EndsInTransition []
  begins_one : (before : List Happening) (next : Happening) → part_of next ≡ Transition
      → EndsInTransition (before ++ next ∷ [])
  goes_on : (before : List Happening) (next : Happening) → EndsInTransition before → part_of next ≡ Within
      → EndsInTransition (before ++ next ∷ [])
