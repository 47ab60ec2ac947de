-- What is made of the processes of a specification, step by step.
use Rattle.std.specs.Prelude.{◌≡◌, ℕ, ℤ, List, Option, None, Some, Contains, map, slice_get}
use Rattle.std.specs.Global.{Vec}
use Rattle.sdl_build.specs.Built.{AreProcesses, IsMissing, named_processes, own_from}
use Rattle.sdl_build.specs.Processes.{IsMadeFrom}
use Rattle.sdl_build.specs.Signals.{signal_of, signals_from}
use Rattle.sdl_build.specs.Context.{Context}
use Rattle.build_definitions.specs.Rows.{ProcessRow}
use Rattle.build_definitions.specs.Definitions.{Rows}
use Rattle.build_names.specs.Names.{first_of}
use Rattle.sdl_system.specs.System.{SystemValue, meaning_of}
use Rattle.sdl_system.specs.declared.id.ProcessId.{ProcessId}
use Rattle.sdl_system.specs.declared.process.Process.{Process}
use Rattle.sdl_system.specs.declared.route.Routes.{Routes}

-- each is the process of its number, or there is none
abbrev pub AreMade : Context → List (Option Process) → Type 0
AreMade context made =
    (number : ProcessId) (row : ProcessRow) (process : Option Process)
    → slice_get context.rows.processes number.0 ≡ Some row → slice_get made number.0 ≡ Some process
    → IsMadeFrom context number row process

-- what the process at this place is made of, as its row says
pub record IsMadeAt (context : Context) (place : ℕ) (process : Option Process) : Type 0 where
  pub row : ProcessRow
  pub listed : slice_get context.rows.processes place ≡ Some row
  pub made : IsMadeFrom context (record { 0 = place }) row process

-- the list has each of these, or one of them isn't there
abbrev pub WholeList : List (Option Process) → Option (Vec Process) → Type 0
WholeList made None = Contains made None
WholeList made (Some list) = map Some list.items ≡ made

abbrev pub AreProcessesOr : Context → Option (Vec Process) → Type 0
AreProcessesOr context None = IsMissing context
AreProcessesOr context (Some list) = AreProcesses context list.items

-- the system has what these rows define, with these default durations, processes and routes
pub record IsComposed (rows : Rows) (durations : List (Option ℤ)) (processes : Vec Process) (routes : Routes)
    (system : SystemValue) : Type 0 where
  pub signals : map signal_of system.signals ≡ signals_from rows.signals durations
  pub processes_are : system.processes ≡ processes.items
  pub routes_are : system.routes ≡ routes
  pub own_signals : (text : List ℕ) → meaning_of system.own_signals text ≡ first_of (own_from 0 rows.signals) text
  pub process_names : (text : List ℕ)
      → meaning_of system.process_names text ≡ first_of (named_processes 0 rows.processes) text

abbrev pub IsComposedIf :
    Rows → List (Option ℤ) → Option (Vec Process) → Routes → Option SystemValue → Type 0
IsComposedIf rows durations None routes system = system ≡ None
IsComposedIf rows durations (Some processes) routes None = ⊥
IsComposedIf rows durations (Some processes) routes (Some system) = IsComposed rows durations processes routes system
