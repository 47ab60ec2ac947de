-- What holds of each process of a system that is what a specification says.
use Rattle.std.specs.Prelude.{◌≡◌, All, Some, length, slice_get}
use Rattle.sdl_build.specs.Built.{IsBuilt}
use Rattle.sdl_build.specs.Headings.{IsHeading}
use Rattle.sdl_build.specs.ProcessScope.{process_scope}
use Rattle.sdl_build.specs.Context.{Context}
use Rattle.build_definitions.specs.Rows.{ProcessRow}
use Rattle.build_process.specs.Made.{IsHeaded}
use Rattle.build_process.specs.Meant.{IsBehaviour}
use Rattle.build_process.specs.declared.heading.Heading.{Heading}
use Rattle.sdl_system.specs.Behaviour.{Behaviour, Means}
use Rattle.sdl_system.specs.Soundness.{Keeps}
use Rattle.sdl_system.specs.System.{SystemValue}
use Rattle.sdl_system.specs.declared.id.ProcessId.{ProcessId}
use Rattle.sdl_system.specs.declared.process.Process.{Process}
use Rattle.sdl_tree.specs.Tree.{Tree}

-- The process of this number can be run: the text of its definition has a behaviour, the process means each that it
-- has, and its tables agree with one another, for the signals of the system.
pub record CanRun (context : Context) (system : SystemValue) (number : ProcessId) (process : Process) : Type 0 where
  pub row : ProcessRow
  pub listed : slice_get context.rows.processes number.0 ≡ Some row
  pub heading : Heading
  pub said : IsHeading context number row heading
  pub headed : IsHeaded heading process
  pub behaviour : Behaviour
  pub is : IsBehaviour (process_scope context number row.definition) row.definition heading behaviour
  pub means : (other : Behaviour)
      → IsBehaviour (process_scope context number row.definition) row.definition heading other
      → Means process other
  pub keeps : All (Keeps (length system.signals) process) process.tables.items

-- So can each process of the system.
abbrev pub ProcessesCanRun : Type 0
ProcessesCanRun =
    (tree : Tree) (system : SystemValue) (built : IsBuilt tree system) (number : ProcessId) (process : Process)
    → slice_get system.processes number.0 ≡ Some process → CanRun built.context system number process
