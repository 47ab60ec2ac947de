-- The steps of a serial run as sweeps, without the marks by which the state of a run tells whose turn it is (Z.101: agent
-- instance set; own).
use Rattle.std.specs.Prelude.{◌≡◌, ◌<◌, ◌≤◌, ◌+◌, ℕ, List, [], ◌∷◌, ◌++◌, length}
use Rattle.run_record.specs.declared.evaluation.identity.Identity.{Identity}
use Rattle.run_semantics.specs.Effect.{Deed}
use Rattle.sdl_script.specs.declared.script.ScriptLine.{ScriptLine}
use Rattle.sdl_system.specs.Behaviour.{Behaviour}
use Rattle.sdl_system.specs.System.{SystemValue}
use Rattle.serial_order.specs.Execution.{Execution, Happening, Moved, RestBetween, Steps, Ticks}
use Rattle.serial_order.specs.RunState.{RunState, beginning}

-- all that happens are steps
abbrev pub AreSteps : List Happening → Type 0
AreSteps [] = Unit {0}
AreSteps (Moved who deeds ∷ rest) = AreSteps rest
AreSteps (other ∷ rest) = ⊥

-- A sweep that begins at a state of the whole has come to a number by these steps. Each step is of an instance that was
-- there when the sweep began, with a greater number than the one before it; and at the step all with numbers between
-- rest.
pub data Sweeping (ps : List Behaviour) (first : RunState) : List Happening → ℕ → RunState → Type 0 where
  begins : Sweeping ps first [] 0 first
  steps : {happenings : List Happening} {number : ℕ} {at : RunState} → Sweeping ps first happenings number at
      → (who : Identity) (deeds : List Deed) (to : RunState) → Steps ps at who deeds to
      → number < who.pid → who.pid ≤ length first.instances → RestBetween ps at.instances number who.pid
      → Sweeping ps first (happenings ++ Moved who deeds ∷ []) who.pid to

-- A whole sweep: in the end all rest that come after its last step and were there when it began.
pub record IsSweep (ps : List Behaviour) (first : RunState) (happenings : List Happening) (last : RunState) : Type 0 where
  pub number : ℕ
  pub sweeping : Sweeping ps first happenings number last
  pub rest : RestBetween ps last.instances number (length first.instances + 1)

-- whole sweeps, each of which begins where the one before it ends
pub data AreSweeps (ps : List Behaviour) (first : RunState) : List Happening → RunState → Type 0 where
  none : AreSweeps ps first [] first
  one_more : {happenings : List Happening} {at : RunState} → AreSweeps ps first happenings at
      → (sweep : List Happening) (last : RunState) → IsSweep ps at sweep last
      → AreSweeps ps first (happenings ++ sweep) last

-- whole sweeps, and one that goes on
pub record PartsIntoSweeps (ps : List Behaviour) (first : RunState) (happenings : List Happening)
    (last : RunState) : Type 0 where
  pub whole : List Happening
  pub more : List Happening
  pub mid : RunState
  pub number : ℕ
  pub parts : happenings ≡ whole ++ more
  pub sweeps : AreSweeps ps first whole mid
  pub sweeping : Sweeping ps mid more number last

-- a sweep is to begin
abbrev pub BeginsSweep : RunState → Type 0
BeginsSweep g = (g.turn ≡ 0) × (g.bound ≡ length g.instances)

-- From where a sweep is to begin, all steps part into sweeps.
abbrev pub StepsAreSweeps : Type 0
StepsAreSweeps =
    (ps : List Behaviour) (time : ℕ) (first last : RunState) (happenings : List Happening) → BeginsSweep first
    → AreSteps happenings → Execution ps time first happenings last → PartsIntoSweeps ps first happenings last

-- That is so when a run begins, and each time that the clock has moved.
abbrev pub BeginningBeginsSweep : Type 0
BeginningBeginsSweep = (system : SystemValue) (lines : List ScriptLine) → BeginsSweep (beginning system lines)

abbrev pub TicksBeginSweep : Type 0
TicksBeginSweep =
    (ps : List Behaviour) (last : ℕ) (g : RunState) (time : ℕ) (h : RunState) → Ticks ps last g time h → BeginsSweep h
