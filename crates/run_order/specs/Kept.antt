-- What a replay keeps, and how far each of its calls goes.
use Rattle.std.specs.Prelude.{◌≡◌, ◌≢◌, ◌⊎◌, ◌+◌, ◌<◌, ◌≤◌, ℕ, Bool, true, false, List, [], ◌∷◌, All, Contains, None, Option, Some, drop, map, slice_get}
use Rattle.port_model.specs.declared.inbox.entry.Fuse.{Fuse}
use Rattle.port_model.specs.Timers.{IsLeast, earlier}
use Rattle.run_order.specs.Interleaving.{Follows, Happening, IsDoneAndRests, IsNothingDue, Looks, MayTell, Part, Tells, Transition, Within, part_of, teller_of}
use Rattle.run_order.specs.OrderState.{OrderState, living_of, member_at}
use Rattle.run_order.specs.Pending.{behind_first}
use Rattle.run_order.specs.ReplayWorld.{world_with}
use Rattle.run_order.specs.Roster.{RosterValue}
use Rattle.run_order.specs.Woven.{acts_of, woven}
use Rattle.run_order.specs.declared.hearing.Heard.{Heard}
use Rattle.run_order.specs.declared.hearing.Heard.TheVariants as heard
use Rattle.run_order.specs.declared.member.Member.{Member}
use Rattle.run_order.specs.declared.member.Move.{Move}
use Rattle.run_order.specs.declared.member.Move.TheVariants as move
use Rattle.run_order.specs.declared.pending.Pending.{Pending}
use Rattle.run_order.specs.declared.pending.Pending.TheVariants as pending
use Rattle.run_semantics.specs.Behaves.{AreBehaviours}
use Rattle.run_semantics.specs.ControlPoint.{Definition}
use Rattle.run_semantics.specs.Effect.{Effect, effects_of, events_of}
use Rattle.run_semantics.specs.Goes.{Goes, IsOneStep}
use Rattle.run_semantics.specs.World.{WorldValue}
use Rattle.sdl_interp.specs.Machine.{place_of}
use Rattle.sdl_interp.specs.Instance.{InstanceValue, IsAtRest, IsRunAs, work_of}
use Rattle.sdl_script.specs.declared.script.ScriptLine.{ScriptLine}
use Rattle.sdl_script.specs.declared.script.ScriptSignal.{ScriptSignal}
use Rattle.sdl_system.specs.Behaviour.{Behaviour}
use Rattle.sdl_system.specs.Route.{target_in}
use Rattle.sdl_system.specs.System.{SystemValue}
use Rattle.sdl_system.specs.declared.id.ProcessId.{ProcessId}
use Rattle.sdl_system.specs.declared.route.Source.TheVariants as source
use Rattle.sdl_system.specs.declared.route.Target.{Target}
use Rattle.serial_order.specs.Execution.{IsNoFuseBefore, IsNoLineBefore, next_line}
use Rattle.serial_run.specs.Serial.{IsOfSystem}
use Rattle.serial_sweeps.specs.Sweeps.{until_of}

-- ---- a step

-- The instance made a step, and what the step does outside is still to be done.
pub record HasMoved (system : SystemValue) (clock : ℕ) (counts : Bool) (d : Definition) (old new : Member)
    : Type 0 where
  pub world : WorldValue
  pub goes : Goes (IsOneStep counts) d (place_of old.instance.position) (work_of old.instance)
      (world_with system clock []) (place_of new.instance.position) (work_of new.instance) world
  pub pending : new.pending ≡ behind_first (woven (acts_of (events_of goes.deeds)) (effects_of goes.deeds))
  pub looked : new.looked ≡ false
  pub undrawn : new.instance.owner.drawn ≡ []

abbrev pub Moves : SystemValue → ℕ → Bool → Member → Member → Type 0
Moves system clock counts old new =
    (d : Definition) → IsRunAs old.instance d → HasMoved system clock counts d old new

-- Nothing has changed, whatever the process means, and the instance is at rest.
abbrev pub Waits : Member → Member → Type 0
Waits old new =
    ((d : Definition) → IsRunAs old.instance d → new ≡ old) × (new.pending ≡ old.pending) × IsAtRest new.instance

abbrev pub IsMove : SystemValue → ℕ → Move → Member → Member → Type 0
IsMove system clock move.Began old new = Moves system clock true old new
IsMove system clock move.Failing old new = Moves system clock false old new
IsMove system clock move.Nothing old new = Waits old new
IsMove system clock move.Amiss old new = (d : Definition) → IsRunAs old.instance d → ⊥

-- what the events from this place on have still to do outside is kept
pub record IsKeptFrom (from : ℕ) (effects : List Effect) (i : InstanceValue) (new : Member) : Type 0 where
  pub pending : new.pending ≡ behind_first (woven (acts_of (drop from i.events)) effects)
  pub looked : new.looked ≡ false

-- ---- what a replay is

-- a run whose script begins once all have rested for the first time
abbrev pub state_with : SystemValue → ℕ → Bool → List Member → RosterValue → List Fuse → List ScriptLine → ℕ
    → OrderState
state_with system clock begun members roster fuses script end = record {
  system = system;
  clock = clock;
  until = until_of begun clock;
  members = members;
  roster = roster;
  fuses = fuses;
  script = script;
  end = end;
}

-- ---- the instances

-- at rest, with nothing still to be done outside
abbrev pub IsStill : Member → Type 0
IsStill m = IsAtRest m.instance × (m.pending ≡ [])

-- The instances are of the system, and have the numbers of their places, from 1 on; whoever may have something to do is
-- noted, and all others rest.
pub record AreKept (ready : List ℕ) (system : SystemValue) (members : List Member) : Type 0 where
  pub of_system : (place : ℕ) (m : Member) → slice_get members place ≡ Some m → IsOfSystem system m.instance
  pub numbers : (place : ℕ) (m : Member) → slice_get members place ≡ Some m → m.instance.who.pid ≡ place + 1
  pub others : (place : ℕ) (m : Member) → slice_get members place ≡ Some m
      → Contains ready (place + 1) ⊎ IsStill m
  pub positive : (number : ℕ) → Contains ready number → 0 < number

-- ---- how far a call goes

-- what no happening changes
pub record IsFixed (g h : OrderState) : Type 0 where
  pub system : h.system ≡ g.system
  pub end : h.end ≡ g.end

-- One thing more happened, which tells an event of these, and which they did.
pub record OneMore (ps : List Behaviour) (g : OrderState) (tellers : List ℕ) (part : Part) (h : OrderState)
    : Type 0 where
  pub happening : Happening
  pub follows : Follows ps g happening h
  pub tells : teller_of happening ≡ tellers
  pub part_is : part_of happening ≡ part

-- so it is for the behaviours of the system's processes
abbrev pub Leads : OrderState → List ℕ → Part → OrderState → Type 0
Leads g tellers part h = (ps : List Behaviour) → AreBehaviours g.system ps → OneMore ps g tellers part h

abbrev pub Stays : OrderState → OrderState → Type 0
Stays g h = (ps : List Behaviour) → AreBehaviours g.system ps → h ≡ g

-- the step of the instance with this number
abbrev pub LeadsBy : Move → OrderState → ℕ → OrderState → Type 0
LeadsBy move.Began g number h = Leads g (number ∷ []) Transition h
LeadsBy move.Failing g number h = Leads g [] Within h
LeadsBy move.Nothing g number h = Stays g h
LeadsBy move.Amiss g number h = (ps : List Behaviour) → AreBehaviours g.system ps → ⊥

-- something happened, or nothing has changed
abbrev pub LeadsIf : Bool → OrderState → List ℕ → Part → OrderState → Type 0
LeadsIf true g tellers part h = Leads g tellers part h
LeadsIf false g tellers part h = h ≡ g

-- ---- what a call finds

-- an output of an instance of this process goes, by those who live now, where it says
abbrev pub MayLook : OrderState → ProcessId → Pending → Type 0
MayLook g process (pending.Send to target item) =
    target ≡ target_in g.system.routes item.name (source.Process process) to (living_of g).least
MayLook g process what = ⊥

-- the next event of the instance at a place is an output that may be looked up
pub record MayLookAt (g : OrderState) (place : ℕ) : Type 0 where
  pub m : Member
  pub what : Pending
  pub later : List Pending
  pub is_there : slice_get g.members place ≡ Some m
  pub next : m.pending ≡ what ∷ later
  pub may : MayLook g m.instance.who.process what

-- the next event of the instance at a place may be told
pub record MayTellAt (g : OrderState) (place : ℕ) : Type 0 where
  pub m : Member
  pub what : Pending
  pub later : List Pending
  pub is_there : slice_get g.members place ≡ Some m
  pub next : m.pending ≡ what ∷ later
  pub may : MayTell g m.looked what

-- ---- what a caller reads

-- there is an instance of this number
pub record IsThere (g : OrderState) (number : ℕ) : Type 0 where
  pub m : Member
  pub is_there : member_at g.members number ≡ Some m

-- this is the next event of the instance with this number; or whoever has it has nothing still to do outside
pub record StandsNext (g : OrderState) (number : ℕ) (what : Pending) : Type 0 where
  pub m : Member
  pub later : List Pending
  pub is_there : member_at g.members number ≡ Some m
  pub next : m.pending ≡ what ∷ later

abbrev pub NothingStands : OrderState → ℕ → Type 0
NothingStands g number = (m : Member) → member_at g.members number ≡ Some m → m.pending ≡ []

-- the next output of the instance with this number was looked up
pub record IsLooked (g : OrderState) (number : ℕ) : Type 0 where
  pub m : Member
  pub is_there : member_at g.members number ≡ Some m
  pub looked : m.looked ≡ true

-- all instances with numbers between these two are at rest, with nothing still to be done outside; so are all behind
-- one
abbrev pub AreStillBetween : OrderState → ℕ → ℕ → Type 0
AreStillBetween g after before =
    (number : ℕ) (m : Member) → after < number → number < before → member_at g.members number ≡ Some m → IsStill m

abbrev pub AreStillBehind : OrderState → ℕ → Type 0
AreStillBehind g after =
    (number : ℕ) (m : Member) → after < number → member_at g.members number ≡ Some m → IsStill m

-- ---- what the environment did

-- the first fuse is one of the instance with this number
abbrev pub IsFirstFuseOf : List Fuse → ℕ → Type 0
IsFirstFuseOf [] number = ⊥
IsFirstFuseOf (fuse ∷ later) number = number ≡ fuse.pid

-- the signal of the next line goes to this target, by those who live now
pub record GoesTo (g : OrderState) (line : ScriptLine) (target : Target) : Type 0 where
  pub signal : ScriptSignal
  pub has : line.signal ≡ Some signal
  pub goes : target ≡ target_in g.system.routes signal.item.name source.Env signal.to (living_of g).least

-- what is told of the next line is what it has
abbrev pub SaysHeard : OrderState → List ScriptLine → Heard → Type 0
SaysHeard g lines heard.Nothing = Unit {0}
SaysHeard g [] told = ⊥
SaysHeard g (line ∷ later) heard.Time = line.signal ≡ None
SaysHeard g (line ∷ later) (heard.Signal target) = GoesTo g line target

-- ---- what no call could do

-- The instance of this number has no output to do next that goes where it says; and no event that may be told.
abbrev pub IsNoLook : OrderState → ℕ → Type 0
IsNoLook g number = (h : OrderState) → Looks g number h → ⊥

abbrev pub IsNoTell : OrderState → ℕ → Type 0
IsNoTell g number = (what : Pending) (h : OrderState) → Tells g number what h → ⊥

-- whoever has this number is at rest, or has something to do outside; or something is due
abbrev pub IsNoStep : OrderState → ℕ → Type 0
IsNoStep g number =
    (m : Member) → member_at g.members number ≡ Some m
    → IsAtRest m.instance ⊎ (m.pending ≢ []) ⊎ (IsNothingDue g → ⊥)

-- no line is due, or a fuse is due before it
abbrev pub IsNoLineNow : OrderState → Type 0
IsNoLineNow g = IsNoLineBefore g.until g.script ⊎ (IsNoFuseBefore g.until g.fuses → ⊥)

-- ---- what a call needs

-- a create of the next number, where so many were given
abbrev pub IsNextNumber : ℕ → Pending → Type 0
IsNextNumber given (pending.Create process number parent values) = number ≡ given + 1
IsNextNumber given what = Unit {0}

-- a line was heard
abbrev pub is_heard : Heard → Bool
is_heard heard.Nothing = false
is_heard heard.Time = true
is_heard (heard.Signal target) = true

-- the sooner of a time and the next line's; where no line is left, not past the end
pub record IsSooner (due : Option ℕ) (script : List ScriptLine) (end time : ℕ) : Type 0 where
  pub is_next : earlier due (next_line script) ≡ Some time
  pub within : script ≡ [] → time ≤ end

-- so it is with the least time of a fuse, and the time of the last line
pub record IsNextTime (g : OrderState) (time : ℕ) : Type 0 where
  pub due : Option ℕ
  pub least : IsLeast (map (λ (fuse : Fuse). fuse.due) g.fuses) due
  pub sooner : IsSooner due g.script g.end time

-- ---- the end

-- all rest, the script is at its end, and no fuse is due by then
pub record IsWhole (ps : List Behaviour) (g : OrderState) : Type 0 where
  pub rest : All (IsDoneAndRests ps) g.members
  pub heard : g.script ≡ []
  pub no_fuse : IsNoFuseBefore (g.end + 1) g.fuses

-- each step is told to its end
abbrev pub IsOver : List Behaviour → Bool → OrderState → Type 0
IsOver ps true g = IsWhole ps g
IsOver ps false g = All (λ (m : Member). m.pending ≡ []) g.members

abbrev pub end_of_run : Bool → OrderState → ℕ
end_of_run true g = g.end
end_of_run false g = g.clock
