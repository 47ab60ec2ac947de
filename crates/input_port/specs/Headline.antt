-- The headline: what holds of the whole life of an owner.
use Rattle.std.specs.Prelude.{◌≡◌, ℕ, ◌==◌, true, List, [], ◌∷◌, ◌++◌, map, All, Option, Some, None, if◌then◌else◌}
use Rattle.std.specs.List.{filter_map, flat_map}
use Rattle.port_model.specs.declared.selection.Class.{Class}
use Rattle.port_model.specs.declared.taken.Taken.{Taken}
use Rattle.port_model.specs.declared.taken.Taken.TheVariants.{Nothing}
use Rattle.port_model.specs.declared.values.timer_key.TimerKey.{TimerKey}
use Rattle.port_model.specs.History.{PortEvent, Put, Expire, Take, Set, Reset, Stop, IsLegal}
use Rattle.port_model.specs.Port.{empty_port}
use Rattle.port_model.specs.declared.inbox.entry.Entry.{Entry}
use Rattle.port_model.specs.declared.inbox.entry.Entry.TheVariants.{Signal, Timer}
use Rattle.port_model.specs.declared.inbox.entry.Fuse.{Fuse}
use Rattle.port_model.specs.declared.inbox.placed.Placed.{Placed}
use Rattle.port_model.specs.Calls.{after_reset, after_stop, IsDrawn, Sets, TakesHere}
use Rattle.input_port.specs.QueueCalls.{Gathers, IsGathered, Meets}
use Rattle.port_model.specs.Ends.{OwnerState}
use Rattle.input_port.specs.QueueEnds.{SenderState, IsKnowing}
use Rattle.port_model.specs.Put.{of, IsTimely}

-- The headline, from the public contracts alone: each owner has a legal history of the standard's port of one thread, with just
-- its own calls and what it drew.

-- A call of an owner with its reply. Draining is a take, a drain or a finish too that was refused for lack of memory.
pub data OwnerCall : Type 0 where
  Taking : List Class → Taken → OwnerCall
  Draining : OwnerCall
  Gathering : SenderState → OwnerCall
  Meeting : SenderState → SenderState → OwnerCall
  Setting : TimerKey → ℕ → Fuse → OwnerCall
  Resetting : TimerKey → OwnerCall
  Stopping : OwnerCall

-- what its contract says of the owner before and after it, and of the entries that it drew
abbrev pub IsCall : OwnerState → OwnerCall → List Placed → OwnerState → Type 0
IsCall old (Taking classes taken) news new = (t : TakesHere classes old new taken) × (news ≡ t.news)
IsCall old Draining news new = IsDrawn old new news
IsCall old (Gathering sender) news new = IsGathered old new sender news
IsCall old (Meeting sender back) news new = (m : Meets old new sender back) × (news ≡ m.news)
IsCall old (Setting key due fuse) news new = Sets old key due fuse new × (news ≡ [])
IsCall old (Resetting key) news new = (new ≡ after_reset old key) × (news ≡ [])
IsCall old Stopping news new = (new ≡ after_stop old) × (news ≡ [])

-- what happened to an owner, in order: an entry was drawn, or a call was made
pub data Step : Type 0 where
  Drawn : Placed → Step
  Called : OwnerCall → Step

-- Calls one after the other, each of an owner that lives, with the entries that each drew before it.
abbrev pub AreCalls : OwnerState → List OwnerCall → List Step → OwnerState → Type 0
AreCalls old [] steps new = (new ≡ old) × (steps ≡ [])
AreCalls old (call ∷ calls) steps new =
    (mid : OwnerState) × (news : List Placed) × (rest : List Step) × (old.state.alive ≡ true) × IsCall old call news mid
    × AreCalls mid calls rest new × (steps ≡ map Drawn news ++ Called call ∷ rest)

-- the events of the standard's port: an expiry by the fuse of another port is none
abbrev pub entry_events : ℕ → ℕ → Entry → List PortEvent
entry_events pid at (Signal item) = Put item ∷ []
entry_events pid at (Timer fuse) = if fuse.pid == pid then Expire fuse.key fuse.arm fuse.due at ∷ [] else []

abbrev pub call_events : OwnerCall → List PortEvent
call_events (Taking classes taken) = Take classes taken ∷ []
call_events (Setting key due fuse) = Set key due fuse.arm ∷ []
call_events (Resetting key) = Reset key ∷ []
call_events Stopping = Stop ∷ []
call_events call = []

abbrev pub step_events : ℕ → Step → List PortEvent
step_events pid (Drawn placed) = entry_events pid placed.at placed.entry
step_events pid (Called call) = call_events call

abbrev pub history_of : ℕ → List Step → List PortEvent
history_of pid steps = flat_map (step_events pid) steps

-- the entries drawn in some steps, and the calls made
abbrev pub drawn_in : Step → Option Placed
drawn_in (Drawn placed) = Some placed
drawn_in (Called call) = None

abbrev pub called_in : Step → Option OwnerCall
called_in (Drawn placed) = None
called_in (Called call) = Some call

-- Whatever an owner was asked from its birth on: its port is what a legal history makes of the empty port; the history has just
-- the owner's calls, in order, and just the entries that it has drawn, each where it drew it. No expiry among these came
-- before its due time.
abbrev pub OwnersHaveHistories : Type 0
OwnersHaveHistories =
    (first last : OwnerState) (calls : List OwnerCall) (steps : List Step) → first.state ≡ empty_port → first.drawn ≡ []
    → AreCalls first calls steps last
    → IsLegal empty_port (history_of first.pid steps) last.state
    × (filter_map drawn_in steps ≡ last.drawn)
    × (filter_map called_in steps ≡ calls)
    × All IsTimely last.drawn

-- After a sender was gathered, a take that finds nothing means that all which the sender put is drawn.
abbrev pub NothingIsLeft : Type 0
NothingIsLeft =
    (classes : List Class) (old mid new : OwnerState) (sender : SenderState) → Gathers old mid sender → TakesHere classes mid new Nothing
    → IsKnowing new → of sender.number new.drawn ≡ of sender.number sender.seen
