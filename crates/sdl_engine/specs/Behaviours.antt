-- The behaviours that the text of a specification gives its processes.
use Rattle.std.specs.Prelude.{◌≡◌, List, Some, length, slice_get}
use Rattle.sdl_build.specs.Headings.{IsHeading}
use Rattle.sdl_build.specs.ProcessScope.{process_scope}
use Rattle.sdl_build.specs.Context.{Context}
use Rattle.build_definitions.specs.Rows.{ProcessRow}
use Rattle.build_process.specs.Made.{IsHeaded}
use Rattle.build_process.specs.Meant.{IsBehaviour}
use Rattle.build_process.specs.declared.heading.Heading.{Heading}
use Rattle.sdl_system.specs.Behaviour.{Behaviour}
use Rattle.sdl_system.specs.System.{SystemValue}
use Rattle.sdl_system.specs.declared.id.ProcessId.{ProcessId}
use Rattle.sdl_system.specs.declared.process.Process.{Process}

-- The text of the process of this number has this behaviour, with the heading that the process has.
pub record IsOfText (context : Context) (number : ProcessId) (process : Process) (behaviour : Behaviour) : Type 0 where
  pub row : ProcessRow
  pub listed : slice_get context.rows.processes number.0 ≡ Some row
  pub heading : Heading
  pub said : IsHeading context number row heading
  pub headed : IsHeaded heading process
  pub is : IsBehaviour (process_scope context number row.definition) row.definition heading behaviour

-- There is one for each process of the system, by its number.
pub record AreOfText (context : Context) (system : SystemValue) (behaviours : List Behaviour) : Type 0 where
  pub count : length behaviours ≡ length system.processes
  pub each : (number : ProcessId) (process : Process) (behaviour : Behaviour)
      → slice_get system.processes number.0 ≡ Some process → slice_get behaviours number.0 ≡ Some behaviour
      → IsOfText context number process behaviour
