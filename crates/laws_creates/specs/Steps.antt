-- What each step of a serial run, and each line that is heard, do outside (Z.101: agent; Z.102: create, output).
use Rattle.std.specs.Prelude.{◌≡◌, ◌≢◌, ◌≤◌, ℕ, List, [], ◌∷◌, ◌++◌, None, Some, length, slice_get}
use Rattle.port_model.specs.declared.values.item.SignalId.{SignalId}
use Rattle.port_model.specs.declared.values.pid.Pid.TheVariants.{Of}
use Rattle.port_model.specs.declared.values.value.Value.{Value}
use Rattle.serial_order.specs.Execution.{Execution, Happening, Hears, Steps}
use Rattle.serial_order.specs.RunState.{RunState, after_effects, beginning, living_of, count_living, instance_at, least_living}
use Rattle.serial_order.specs.Laws.{AtEachEnd}
use Rattle.run_record.specs.declared.evaluation.identity.Identity.{Identity}
use Rattle.sdl_interp.specs.Instance.{InstanceValue}
use Rattle.run_record.specs.Event as event
use Rattle.run_semantics.specs.Effect.{Effect, Deed, Send, effects_of}
use Rattle.run_semantics.specs.World.{most_instances}
use Rattle.sdl_script.specs.declared.script.ScriptLine.{ScriptLine}
use Rattle.sdl_script.specs.declared.script.ScriptSignal.{ScriptSignal}
use Rattle.sdl_interp.specs.declared.transitions.machine.Position.TheVariants.{Ended}
use Rattle.sdl_system.specs.Behaviour.{Behaviour}
use Rattle.sdl_system.specs.Route.{target_in}
use Rattle.sdl_system.specs.System.{SystemValue}
use Rattle.sdl_system.specs.declared.id.ProcessId.{ProcessId}
use Rattle.sdl_system.specs.declared.process.Process.{Process}
use Rattle.sdl_system.specs.declared.route.Dest.{Dest}
use Rattle.sdl_system.specs.declared.route.Source.{Source}
use Rattle.sdl_system.specs.declared.route.Source.TheVariants as source
use Rattle.sdl_system.specs.declared.route.Target.{Target}

-- ---- each step

-- This holds of each deed of each step, in a run of a system from its beginning: of the instance that makes the step,
-- and of the instances as they are when the deed is done. They are those that were there when the step began, and those
-- that it has created since; the one that makes it lives until it is over.
abbrev pub OfEachDeed : (SystemValue → List InstanceValue → Identity → Deed → Type 0) → Type 0
OfEachDeed Holds =
    (ps : List Behaviour) (system : SystemValue) (lines : List ScriptLine) (time : ℕ) (happenings : List Happening)
    (g h : RunState) (who : Identity) (before : List Deed) (deed : Deed) (after : List Deed)
    → Execution ps time (beginning system lines) happenings g
    → Steps ps g who (before ++ deed ∷ after) h
    → Holds system (after_effects g (effects_of before)).instances who deed

-- ---- creates

-- Why a create gives none: as many instances of the process live as it may have at most; or all numbers were given; or
-- the system has no such process.
pub data HasNoNumber (system : SystemValue) (instances : List InstanceValue) (id : ProcessId) : Type 0 where
  as_many : (process : Process) (most : ℕ) → slice_get system.processes id.0 ≡ Some process
      → process.maximum ≡ Some most → most ≤ count_living instances id.0 → HasNoNumber system instances id
  all_given : most_instances ≤ length instances → HasNoNumber system instances id
  no_process : slice_get system.processes id.0 ≡ None → HasNoNumber system instances id

-- A create gives none for one of these causes alone.
abbrev pub NullsHaveCause : Type 0
NullsHaveCause =
    OfEachDeed (λ system instances who deed.
    (process : ProcessId) → deed.event ≡ event.Create process None → HasNoNumber system instances process)

-- ---- targets

-- where a signal goes by the routes of the system, where these instances are there: of each process the living one with
-- the least number counts
abbrev pub target_for : SystemValue → List InstanceValue → SignalId → Source → Dest → Target
target_for system instances signal from to =
    target_in system.routes signal from to (living_of system instances).least

-- What an instance sends goes there, and nothing else is done with it.
abbrev pub OutputsAreMeant : Type 0
OutputsAreMeant =
    OfEachDeed (λ system instances who deed.
    (signal : SignalId) (to : Dest) (values : List Value) (target : Target)
    → deed.event ≡ event.Output signal to values target
    → (target ≡ target_for system instances signal (source.Process who.process) to)
    × (deed.effects ≡ Send target (record { name = signal; values = values; sender = Of who.pid }) ∷ []))

-- So does a signal of the script, and nothing else is done with it.
abbrev pub SignalsAreMeant : Type 0
SignalsAreMeant =
    (ps : List Behaviour) (system : SystemValue) (lines : List ScriptLine) (time : ℕ) (happenings : List Happening)
    (g h : RunState) (line : ScriptLine) (effects : List Effect) (signal : ScriptSignal)
    → Execution ps time (beginning system lines) happenings g → Hears g line effects h
    → line.signal ≡ Some signal
    → effects ≡ Send (target_for system g.instances signal.item.name source.Env signal.to) signal.item ∷ []

-- ---- who counts

-- An instance that hasn't ended counts, whether it has started or not: its process has a living one with the least
-- number, and that is not past its own.
abbrev pub AreCounted : List InstanceValue → Type 0
AreCounted instances =
    (number : ℕ) (i : InstanceValue) → instance_at instances number ≡ Some i → i.position ≢ Ended
    → (least : ℕ) × (least_living instances i.who.process.0 ≡ Some least) × (least ≤ number)

-- So it is at each moment of a run: between two steps, and as each deed is done.
abbrev pub EachIsCounted : Type 0
EachIsCounted = AtEachEnd (λ ps system lines happenings last. AreCounted last.instances)

abbrev pub EachIsCountedAmid : Type 0
EachIsCountedAmid = OfEachDeed (λ system instances who deed. AreCounted instances)
