-- What a chronicle has told.
use Rattle.std.specs.Prelude.{◌≡◌, ◌↔◌, ℕ, Bool, false, true, List}
use Rattle.run_order.specs.Interleaving.{EndsInTransition, Happening, Interleaving, tellers_of}
use Rattle.run_order.specs.Noted.{ReplayState}
use Rattle.run_order.specs.OrderState.{OrderState, beginning}
use Rattle.run_semantics.specs.Behaves.{AreBehaviours}
use Rattle.sdl_script.specs.Script.{end_of}
use Rattle.sdl_script.specs.declared.script.ScriptLine.{ScriptLine}
use Rattle.sdl_system.specs.Behaviour.{Behaviour}
use Rattle.sdl_system.specs.System.{SystemValue}

-- The system, the whole script, the state of the run, the numbers of those who may have something to do, whose events
-- were told, whether the environment has done nothing since the last transition began, and whether nothing is known any
-- more.
pub record ChronicleState : Type 0 where
  pub system : SystemValue
  pub lines : List ScriptLine
  pub now : OrderState
  pub noted : List ℕ
  pub tellers : List ℕ
  pub in_transition : Bool
  pub lost : Bool

-- a run in one order leads from the beginning to the state, and tells these events
pub record IsToldBy (ps : List Behaviour) (c : ChronicleState) : Type 0 where
  pub happenings : List Happening
  pub interleaving : Interleaving ps (beginning c.system c.lines) happenings c.now
  pub told : c.tellers ≡ tellers_of happenings
  pub ends : (c.in_transition ≡ true) ↔ EndsInTransition happenings

-- So it is for the behaviours of the system's processes, unless nothing is known.
pub record IsChronicle (c : ChronicleState) : Type 0 where
  pub told : c.lost ≡ false → (ps : List Behaviour) → AreBehaviours c.system ps → IsToldBy ps c
  pub system : c.now.system ≡ c.system
  pub end : c.now.end ≡ end_of c.lines

-- its replay
abbrev pub replay_of : ChronicleState → ReplayState
replay_of c = record { order = c.now; noted = c.noted }

-- what is told: a run of this system on this script
pub record Run : Type 0 where
  pub system : SystemValue
  pub lines : List ScriptLine

abbrev pub run_of : ChronicleState → Run
run_of c = record { system = c.system; lines = c.lines }

abbrev pub run_with : SystemValue → List ScriptLine → Run
run_with system lines = record { system = system; lines = lines }
