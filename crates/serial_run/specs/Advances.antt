-- How far a serial run goes.
use Rattle.std.specs.Prelude.{◌≡◌, ◌+◌, ℕ, List, Option}
use Rattle.run_semantics.specs.Behaves.{AreBehaviours}
use Rattle.serial_order.specs.Execution.{Execution, EndsInTransition, Happening, transitions_of}
use Rattle.serial_order.specs.RunState.{RunState}
use Rattle.serial_run.specs.Serial.{state_of}
use Rattle.serial_run.specs.Thinned.{IsThinned}
use Rattle.serial_run.specs.declared.instances.Instances.{Instances}
use Rattle.serial_run.specs.Told.{NotesThese, tellers_of}
use Rattle.serial_sweeps.specs.Sweeps.{Moment}
use Rattle.sdl_system.specs.Behaviour.{Behaviour}

-- From this state of the whole an execution leads to one that has all fuses of the run's, and maybe some more, which
-- are spent; and its transitions are taken off the limit. Where none is left, nothing happened after the last of them.
-- Whose steps it made is noted, if that is kept.
pub record Advances (ps : List Behaviour) (last : ℕ) (m : Moment) (a : Instances) (k : Option (List ℕ)) (g : RunState)
    (n : Moment) (b : Instances) (l : Option (List ℕ)) : Type 0 where
  pub happenings : List Happening
  pub to : RunState
  pub execution : Execution ps last g happenings to
  pub thinned : IsThinned to (state_of n b)
  pub counted : n.left + transitions_of happenings ≡ m.left
  pub in_transition : n.left ≡ 0 → EndsInTransition happenings
  pub noted : NotesThese k (tellers_of happenings) l
  pub system : b.system ≡ a.system

-- So it is for the behaviours of the system's processes, from each state of which this one is without spent fuses.
abbrev pub Reaches : ℕ → Moment → Instances → Option (List ℕ) → Moment → Instances → Option (List ℕ) → Type 0
Reaches last m a k n b l =
    (ps : List Behaviour) → AreBehaviours a.system.now ps → (g : RunState) → IsThinned g (state_of m a)
    → Advances ps last m a k g n b l
