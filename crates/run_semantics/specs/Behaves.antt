-- What the processes of a system are, as far as their instances are concerned: what each means, with tables that agree
-- with it.
use Rattle.std.specs.List.{AllZip}
use Rattle.std.specs.Prelude.{All, List, length}
use Rattle.sdl_system.specs.Behaviour.{Behaviour, Means}
use Rattle.sdl_system.specs.Soundness.{Keeps}
use Rattle.sdl_system.specs.System.{SystemValue}
use Rattle.sdl_system.specs.declared.process.Process.{Process}

-- The process of the system means this behaviour, and its tables can be run.
pub record Behaves (system : SystemValue) (process : Process) (p : Behaviour) : Type 0 where
  pub means : Means process p
  pub keeps : All (Keeps (length system.signals) process) process.tables.items

-- each process of the system means the behaviour of its number
abbrev pub AreBehaviours : SystemValue → List Behaviour → Type 0
AreBehaviours system ps = AllZip (Behaves system) system.processes ps
