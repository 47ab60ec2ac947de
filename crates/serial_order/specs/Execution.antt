-- The serial order of a run: one list of all that happens (Z.101: agent; Z.102: start, input, output, timer).
use Rattle.std.specs.Prelude.{◌≡◌, ◌≢◌, ◌⊎◌, ◌+◌, ◌<◌, ◌≤◌, ℕ, Bool, false, List, [], ◌∷◌, ◌++◌, All, Option, None, Some, if◌then◌else◌, length, map, slice_get}
use Rattle.port_model.specs.declared.inbox.entry.Fuse.{Fuse}
use Rattle.port_model.specs.Timers.{IsLeast, earlier}
use Rattle.serial_order.specs.RunState.{RunState, after_effects, world_at, expired, heard_effects, instance_at, with_instance}
use Rattle.run_record.specs.declared.evaluation.identity.Identity.{Identity}
use Rattle.sdl_interp.specs.Instance.{InstanceValue, IsQuietAt, IsRunAs, Keeps, work_of}
use Rattle.run_record.specs.Event.{is_beginning}
use Rattle.run_semantics.specs.Effect.{Effect, Deed, effects_of}
use Rattle.run_semantics.specs.Goes.{Goes, IsOneStep}
use Rattle.run_semantics.specs.World.{WorldValue}
use Rattle.sdl_script.specs.declared.script.ScriptLine.{ScriptLine}
use Rattle.sdl_interp.specs.Machine.{place_of}
use Rattle.sdl_interp.specs.declared.transitions.machine.Position.TheVariants.{Ended}
use Rattle.sdl_system.specs.Behaviour.{Behaviour}
use Rattle.sdl_system.specs.System.{SystemValue}

-- ---- what the instances mean

-- the process of an instance means this behaviour, which is that of its number
pub record IsMeant (ps : List Behaviour) (i : InstanceValue) (p : Behaviour) : Type 0 where
  pub listed : slice_get ps i.who.process.0 ≡ Some p
  pub is_run : IsRunAs i (record { system = i.system; behaviour = p })

-- The instance waits where nothing can be taken and no continuous signal is true, or has ended.
pub record Rests (ps : List Behaviour) (i : InstanceValue) : Type 0 where
  pub p : Behaviour
  pub meant : IsMeant ps i p
  pub quiet : IsQuietAt (record { system = i.system; behaviour = p }) i.position i

-- ---- what happens

-- An instance made a step with these deeds; a fuse expired; a line of the script was heard, of which this was done; or
-- the clock moved to a time. A look at an instance that finds nothing to do is no happening.
pub data Happening : Type 0 where
  Moved : (who : Identity) (deeds : List Deed) → Happening
  Expired : (fuse : Fuse) → Happening
  Heard : (line : ScriptLine) (effects : List Effect) → Happening
  Ticked : (time : ℕ) → Happening

-- no fuse of these, and no line, has a time before this
abbrev pub IsNoFuseBefore : ℕ → List Fuse → Type 0
IsNoFuseBefore until fuses = All (λ (fuse : Fuse). until ≤ fuse.due) fuses

abbrev pub IsNoLineBefore : ℕ → List ScriptLine → Type 0
IsNoLineBefore until [] = Unit {0}
IsNoLineBefore until (line ∷ later) = until ≤ line.at

-- nothing is to be done before the next step
pub record IsNothingDue (g : RunState) : Type 0 where
  pub fuses : IsNoFuseBefore g.until g.fuses
  pub lines : IsNoLineBefore g.until g.script

-- ---- whose turn it is

-- all instances with numbers between these two rest
abbrev pub RestBetween : List Behaviour → List InstanceValue → ℕ → ℕ → Type 0
RestBetween ps instances after before =
    (number : ℕ) (i : InstanceValue) → after < number → number < before → instance_at instances number ≡ Some i
    → Rests ps i

-- The number of the instance whose turn it is, and how far the sweep goes in which it is: the next one that doesn't
-- rest of those that were there when the sweep began; and where none of these is left, a new sweep begins with all that
-- are there now.
pub data IsTurn (ps : List Behaviour) (g : RunState) (number : ℕ) : ℕ → Type 0 where
  goes_on : g.turn < number → number ≤ g.bound → RestBetween ps g.instances g.turn number → IsTurn ps g number g.bound
  begins_anew : RestBetween ps g.instances g.turn (g.bound + 1) → RestBetween ps g.instances 0 number
      → IsTurn ps g number (length g.instances)

-- ---- one happening

-- whether these deeds begin a transition; what fails the instance in a state is none
abbrev pub is_transition : List Deed → Bool
is_transition [] = false
is_transition (first ∷ rest) = is_beginning first.event

-- One step of a living instance, in its turn: one whole transition, a discard, or what fails the instance in a state.
-- It sees the clock and who lives as they are now. What it does outside is done when it is over. Nothing is due. What
-- comes into its port is there as it comes: no queue stands behind it, from which the step draws.
pub record Steps (ps : List Behaviour) (g : RunState) (who : Identity) (deeds : List Deed) (h : RunState) : Type 0 where
  pub old : InstanceValue
  pub new : InstanceValue
  pub p : Behaviour
  pub bound : ℕ
  pub world : WorldValue
  pub is_there : instance_at g.instances who.pid ≡ Some old
  pub is_who : old.who ≡ who
  pub of_system : old.system ≡ g.system
  pub lives : old.position ≢ Ended
  pub meant : IsMeant ps old p
  pub turn : IsTurn ps g who.pid bound
  pub nothing_due : IsNothingDue g
  pub keeps : Keeps old new
  pub undrawn : new.owner.drawn ≡ []
  pub goes : Goes (IsOneStep (is_transition deeds)) (record { system = old.system; behaviour = p })
      (place_of old.position) (work_of old) (world_at g) (place_of new.position) (work_of new) world
  pub deeds_are : goes.deeds ≡ deeds
  pub now : h ≡ after_effects
      (record g { instances = with_instance g.instances who.pid new; turn = who.pid; bound = bound })
      (effects_of deeds)

-- the first fuse in due order expires, whose time has come
pub record Expires (g : RunState) (fuse : Fuse) (h : RunState) : Type 0 where
  pub later : List Fuse
  pub first : g.fuses ≡ fuse ∷ later
  pub due : fuse.due < g.until
  pub now : h ≡ expired (record g { fuses = later }) fuse

-- the next line of the script is heard in its time, when no fuse is due any more
pub record Hears (g : RunState) (line : ScriptLine) (effects : List Effect) (h : RunState) : Type 0 where
  pub later : List ScriptLine
  pub next : g.script ≡ line ∷ later
  pub due : line.at < g.until
  pub no_fuse : IsNoFuseBefore g.until g.fuses
  pub effects_are : effects ≡ heard_effects g line.signal
  pub now : h ≡ after_effects (record g { script = later }) effects

-- the time of the next line
abbrev pub next_line : List ScriptLine → Option ℕ
next_line [] = None
next_line (line ∷ later) = Some line.at

-- All instances rest, and the clock moves to the sooner of the least time of a fuse and the next line's; where no line
-- is left, not past the last line's. What is due then is to be done, and then a new sweep begins.
pub record Ticks (ps : List Behaviour) (last : ℕ) (g : RunState) (time : ℕ) (h : RunState) : Type 0 where
  pub due : Option ℕ
  pub nothing_due : IsNothingDue g
  pub rest : All (Rests ps) g.instances
  pub least : IsLeast (map (λ (fuse : Fuse). fuse.due) g.fuses) due
  pub is_next : earlier due (next_line g.script) ≡ Some time
  pub within : g.script ≡ [] → time ≤ last
  pub now : h ≡ record g { clock = time; until = time + 1; turn = 0; bound = length g.instances }

-- one happening leads from a state of the whole to another; the script's last line has this time
abbrev pub Follows : List Behaviour → ℕ → RunState → Happening → RunState → Type 0
Follows ps last g (Moved who deeds) h = Steps ps g who deeds h
Follows ps last g (Expired fuse) h = Expires g fuse h
Follows ps last g (Heard line effects) h = Hears g line effects h
Follows ps last g (Ticked time) h = Ticks ps last g time h

-- a run from one state of the whole to another, one happening after the other
pub data Execution (ps : List Behaviour) (last : ℕ) (from : RunState) : List Happening → RunState → Type 0 where
  begins : Execution ps last from [] from
  goes : {happenings : List Happening} {at : RunState} → Execution ps last from happenings at → (next : Happening)
      (to : RunState) → Follows ps last at next to → Execution ps last from (happenings ++ next ∷ []) to

-- ---- how many transitions were made

abbrev pub transitions_of_one : Happening → ℕ
transitions_of_one (Moved who deeds) = if is_transition deeds then 1 else 0
transitions_of_one happened = 0

abbrev pub transitions_of : List Happening → ℕ
transitions_of [] = 0
transitions_of (first ∷ rest) = transitions_of_one first + transitions_of rest

-- an instance made a transition
abbrev pub IsTransition : Happening → Type 0
IsTransition happened = transitions_of_one happened ≡ 1

-- nothing happened, or a transition was made and nothing happened behind it
abbrev pub EndsInTransition : List Happening → Type 0
EndsInTransition happenings =
    (happenings ≡ [])
    ⊎ ((before : List Happening) × (last : Happening) × (happenings ≡ before ++ last ∷ []) × IsTransition last)
