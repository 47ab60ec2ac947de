-- How far a piece of work brings an instance.
use Rattle.std.specs.Prelude.{◌≡◌, ◌==◌, ℕ, Bool, List, [], ◌∷◌, ◌++◌, All, Contains, if◌then◌else◌}
use Rattle.std.specs.List.{flat_map}
use Rattle.port_model.specs.Calls.{IsNoPriority}
use Rattle.port_model.specs.Ends.{OwnerState}
use Rattle.port_model.specs.declared.inbox.entry.Entry.{Entry}
use Rattle.port_model.specs.declared.inbox.entry.Entry.TheVariants.{Signal, Timer}
use Rattle.port_model.specs.declared.inbox.placed.Placed.{Placed}
use Rattle.port_model.specs.History.{Expire, PortEvent, Put, Take}
use Rattle.port_model.specs.declared.selection.Class.{Class}
use Rattle.port_model.specs.declared.selection.Class.TheVariants as class
use Rattle.port_model.specs.declared.taken.Taken.TheVariants.{Nothing}
use Rattle.run_record.specs.declared.evaluation.identity.Identity.{Identity}
use Rattle.run_record.specs.declared.evaluation.store.Store.{Store}
use Rattle.run_record.specs.Event.{Event, is_beginning}
use Rattle.run_record.specs.Event as event
use Rattle.run_record.specs.declared.failure.Failure.{Failure}
use Rattle.run_semantics.specs.Effect.{Deed, calls_of, events_of}
use Rattle.run_semantics.specs.Fails.{Fails}
use Rattle.run_semantics.specs.Leads.{IsQuiet}
use Rattle.run_semantics.specs.ControlPoint.{Definition, In, ControlPoint}
use Rattle.run_semantics.specs.Runs.{Runs, outside_of, own_of}
use Rattle.run_semantics.specs.World.{IsTrueOf, WorldValue, after_deeds, time_after}
use Rattle.sdl_system.specs.declared.id.StateId.{StateId}

-- what an instance works on: who it is, what it knows, its port, and what it did so far
pub record MachineValue : Type 0 where
  pub who : Identity
  pub store : Store
  pub owner : OwnerState
  pub events : List Event

-- an entry that the owner of this port draws, as an event of the port; the fuse of another port is none
abbrev pub entry_as : ℕ → ℕ → Entry → List PortEvent
entry_as pid at (Signal item) = Put item ∷ []
entry_as pid at (Timer fuse) = if fuse.pid == pid then Expire fuse.key fuse.arm fuse.due at ∷ [] else []

abbrev pub drawn_as : ℕ → List Placed → List PortEvent
drawn_as pid drawn = flat_map (λ (placed : Placed). entry_as pid placed.at placed.entry) drawn

-- an event that begins a transition, is a discard, or is a failure of a condition or a take
abbrev pub IsFirst : Event → Type 0
IsFirst (event.Start at) = Unit {0}
IsFirst (event.Consumed at got) = Unit {0}
IsFirst (event.Prior at got) = Unit {0}
IsFirst (event.Discarded at got) = Unit {0}
IsFirst (event.Provided at number) = Unit {0}
IsFirst (event.FailedAt at why) = Unit {0}
IsFirst happened = ⊥

-- an event inside of a transition
abbrev pub IsInner : Event → Type 0
IsInner (event.Task variable value) = Unit {0}
IsInner (event.Output signal to values target) = Unit {0}
IsInner (event.Set key due) = Unit {0}
IsInner (event.Reset key) = Unit {0}
IsInner (event.Create process number) = Unit {0}
IsInner (event.NextState state) = Unit {0}
IsInner event.Stop = Unit {0}
IsInner (event.Failed why) = Unit {0}
IsInner happened = ⊥

-- all deeds belong to one transition that has begun before
abbrev pub AreInner : List Deed → Type 0
AreInner deeds = All (λ (deed : Deed). IsInner deed.event) deeds

-- The deeds of one step: what begins it, and the rest of its transition. No second transition begins in it; whether one
-- does at all is told.
abbrev pub IsOneStep : Bool → List Deed → Type 0
IsOneStep counts [] = ⊥
IsOneStep counts (first ∷ rest) = IsFirst first.event × (is_beginning first.event ≡ counts) × AreInner rest

-- The calls begin with a take after which the owner knew of nothing more that was put: one that gave nothing, or, in a
-- state with a priority input, one that gave no signal of a priority input.
abbrev pub HaveSeenAll : List PortEvent → Type 0
HaveSeenAll (Take classes Nothing ∷ rest) = Unit {0}
HaveSeenAll (Take classes taken ∷ rest) = Contains classes class.Priority × IsNoPriority classes taken
HaveSeenAll calls = ⊥

-- What begins the deeds rests on that: a continuous signal, the failure of a condition after a take that gave nothing, and
-- what is no priority input, in a state that has one.
abbrev pub RestOnAll : List Deed → Type 0
RestOnAll [] = ⊥
RestOnAll (first ∷ rest) = HaveSeenAll first.calls

-- all that the owner knows to be put is drawn
abbrev pub IsAllDrawn : OwnerState → Type 0
IsAllDrawn owner = owner.known ≡ owner.drawn

-- nothing is done
abbrev pub AreNone : List Deed → Type 0
AreNone deeds = deeds ≡ []

-- the work with this event behind all others
abbrev pub with_event : MachineValue → Event → MachineValue
with_event m happened = record m { events = m.events ++ happened ∷ [] }

-- From a place to a place, by deeds of this shape: the record grows by their events, the owner's history by exactly
-- their calls and by what it drew, and the world by what they do; what they say of the world is true, and they are a
-- run of the process. Where they rest on all that the owner knows, all of that is drawn; and what was drawn to the last
-- before is so still.
pub record Goes (Shape : List Deed → Type 0) (d : Definition) (from : ControlPoint) (m : MachineValue) (w : WorldValue)
    (to : ControlPoint) (n : MachineValue) (v : WorldValue) : Type 0 where
  pub deeds : List Deed
  pub news : List Placed
  pub history : List PortEvent
  pub shape : Shape deeds
  pub who : n.who ≡ m.who
  pub port : n.owner.port ≡ m.owner.port
  pub pid : n.owner.pid ≡ m.owner.pid
  pub drawn : n.owner.drawn ≡ m.owner.drawn ++ news
  pub fresh : RestOnAll deeds → IsAllDrawn n.owner
  pub fresh_still : IsAllDrawn m.owner → IsAllDrawn n.owner
  pub outside : outside_of history ≡ drawn_as m.owner.pid news
  pub own : own_of history ≡ calls_of deeds
  pub recorded : n.events ≡ m.events ++ events_of deeds
  pub world : v ≡ after_deeds w deeds
  pub time : n.store.time ≡ time_after m.store.time deeds
  pub are_true : IsTrueOf d.system m.who w m.store.time deeds
  pub runs : Runs d m.who from m.store m.owner.state deeds history to n.store n.owner.state

-- From a place to one at which the transition fails.
pub record GoesWrong (d : Definition) (from : ControlPoint) (m : MachineValue) (w : WorldValue) (n : MachineValue)
    (v : WorldValue)
    (why : Failure) : Type 0 where
  pub at : ControlPoint
  pub goes : Goes AreInner d from m w at n v
  pub fails : Fails d n.who n.owner.state at n.store why

-- In a state a take finds nothing and no continuous signal is true. The owner may have drawn something; nothing else
-- has changed, and all that it knows is drawn.
pub record Waits (d : Definition) (state : StateId) (m : MachineValue) (w : WorldValue) (n : MachineValue)
    (v : WorldValue) : Type 0 where
  pub classes : List Class
  pub news : List Placed
  pub history : List PortEvent
  pub who : n.who ≡ m.who
  pub port : n.owner.port ≡ m.owner.port
  pub pid : n.owner.pid ≡ m.owner.pid
  pub drawn : n.owner.drawn ≡ m.owner.drawn ++ news
  pub fresh : IsAllDrawn n.owner
  pub armed : n.owner.armed ≡ m.owner.armed
  pub outside : outside_of history ≡ drawn_as m.owner.pid news
  pub own : own_of history ≡ Take classes Nothing ∷ []
  pub store : n.store ≡ m.store
  pub recorded : n.events ≡ m.events
  pub world : v ≡ w
  pub quiet : IsQuiet d m.who n.owner.state state m.store classes
  pub runs : Runs d m.who (In state) m.store m.owner.state [] history (In state) m.store n.owner.state
