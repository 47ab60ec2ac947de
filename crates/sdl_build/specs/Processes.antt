-- When a process is what its text says.
use Rattle.std.specs.Prelude.{All, Option, None, Some, length}
use Rattle.build_definitions.specs.Rows.{ProcessRow}
use Rattle.build_process.specs.Made.{IsHeaded}
use Rattle.build_process.specs.Meant.{IsBehaviour}
use Rattle.build_process.specs.Refused.{IsRefused}
use Rattle.build_process.specs.declared.heading.Heading.{Heading}
use Rattle.sdl_build.specs.Headings.{IsHeading}
use Rattle.sdl_build.specs.ProcessScope.{process_scope}
use Rattle.sdl_build.specs.Context.{Context}
use Rattle.sdl_system.specs.Behaviour.{Behaviour, Means}
use Rattle.sdl_system.specs.Soundness.{Keeps}
use Rattle.sdl_system.specs.declared.id.ProcessId.{ProcessId}
use Rattle.sdl_system.specs.declared.process.Process.{Process}

-- The process of this number does what its text says: it has what its heading says, and means each behaviour that the
-- text has; and its tables agree with one another, for the signals of the system.
pub record IsProcess (context : Context) (number : ProcessId) (row : ProcessRow) (process : Process) : Type 0 where
  pub heading : Heading
  pub said : IsHeading context number row heading
  pub headed : IsHeaded heading process
  pub means : (behaviour : Behaviour)
      → IsBehaviour (process_scope context number row.definition) row.definition heading behaviour
      → Means process behaviour
  pub keeps : All (Keeps (length context.rows.signals) process) process.tables.items

-- it, or why there is none
abbrev pub IsMadeFrom : Context → ProcessId → ProcessRow → Option Process → Type 0
IsMadeFrom context number row None = IsRefused (process_scope context number row.definition) row.definition
IsMadeFrom context number row (Some process) = IsProcess context number row process
