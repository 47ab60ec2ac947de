-- When a system is what a specification says.
use Rattle.std.specs.Prelude.{◌≡◌, ℕ, ◌+◌, ◌++◌, List, [], ◌∷◌, Option, None, Some, length, map, slice_get}
use Rattle.port_model.specs.declared.values.item.SignalId.{SignalId}
use Rattle.sdl_build.specs.Faulty.{NotesRest, definition_faults}
use Rattle.sdl_build.specs.Signals.{signal_of, signals_from}
use Rattle.sdl_build.specs.Processes.{IsProcess}
use Rattle.sdl_build.specs.ProcessScope.{process_scope}
use Rattle.sdl_build.specs.Context.{IsResolved, Resolved, AreConnections, Context, resolved_of}
use Rattle.build_definitions.specs.Rows.{ProcessRow, SignalRow}
use Rattle.build_constants.specs.ConstantTable.{all_durations}
use Rattle.build_process.specs.Refused.{IsRefused}
use Rattle.build_names.specs.Faults.{Diagnostic, least_of}
use Rattle.build_names.specs.Names.{first_of}
use Rattle.build_names.specs.declared.faults.fault.Rule.TheVariants.{Limit}
use Rattle.build_names.specs.Spaces.{entry_if, is_same_scope}
use Rattle.build_names.specs.declared.scopes.scope.ScopeId.TheVariants as scope
use Rattle.sdl_system.specs.System.{SystemValue, meaning_of}
use Rattle.sdl_system.specs.declared.id.ProcessId.{ProcessId}
use Rattle.sdl_system.specs.declared.process.Process.{Process}
use Rattle.sdl_tree.specs.Tree.{Tree}

-- there is one for each row, by its number
pub record AreProcesses (context : Context) (processes : List Process) : Type 0 where
  pub size : length processes ≡ length context.rows.processes
  pub each : (number : ProcessId) (row : ProcessRow) (process : Process)
      → slice_get context.rows.processes number.0 ≡ Some row → slice_get processes number.0 ≡ Some process
      → IsProcess context number row process

-- why one isn't there
pub record IsMissing (context : Context) : Type 0 where
  pub number : ProcessId
  pub row : ProcessRow
  pub listed : slice_get context.rows.processes number.0 ≡ Some row
  pub refused : IsRefused (process_scope context number row.definition) row.definition

-- ---- names that the environment uses

-- the signals of the system's own scope by their names, where these are numbered from this number on
abbrev pub own_from : ℕ → List SignalRow → List (List ℕ × SignalId)
own_from number [] = []
own_from number (row ∷ rows) =
    entry_if (is_same_scope row.scope scope.System) row.name.text (record { 0 = number }) ++ own_from (number + 1) rows

-- processes by their names, numbered from this number on
abbrev pub named_processes : ℕ → List ProcessRow → List (List ℕ × ProcessId)
named_processes number [] = []
named_processes number (row ∷ rows) =
    (row.definition.name.text, record { 0 = number }) ∷ named_processes (number + 1) rows

-- ---- the whole

pub record IsSystem (context : Context) (system : SystemValue) : Type 0 where
  pub signals : map signal_of system.signals
      ≡ signals_from context.rows.signals (all_durations context.rows context.symbols context.constants)
  pub processes : AreProcesses context system.processes
  pub routes : system.routes ≡ context.routes
  -- the signals that the system itself defines
  pub own_signals : (text : List ℕ) → meaning_of system.own_signals text
      ≡ first_of (own_from 0 context.rows.signals) text
  -- the first process of the name in the text, in whatever block
  pub process_names : (text : List ℕ)
      → meaning_of system.process_names text ≡ first_of (named_processes 0 context.rows.processes) text

-- it, or why there is none
abbrev pub IsSystemOr : Context → Option SystemValue → Type 0
IsSystemOr context None = IsMissing context
IsSystemOr context (Some system) = IsSystem context system

-- ---- what is told

-- Of all rules that are broken this is told: None where none is.
pub record IsTold (tree : Tree) (context : Context) (fault : Option Diagnostic) : Type 0 where
  pub mid : Option Diagnostic
  pub of_definitions : mid ≡ least_of None (definition_faults tree (resolved_of context))
  pub of_rest : NotesRest context mid fault

-- The system is what the specification says, and no rule is broken in it.
pub record IsBuilt (tree : Tree) (system : SystemValue) : Type 0 where
  pub context : Context
  pub defined : IsResolved tree (resolved_of context)
  pub connections : AreConnections context
  pub unbroken : IsTold tree context None
  pub built : IsSystem context system

-- The fault is the one that is told. Where it is a limit, it is the least of those in the definitions.
pub data IsBroken (tree : Tree) (fault : Diagnostic) : Type 0 where
  past_limit :
      (resolved : Resolved) → IsResolved tree resolved
      → least_of None (definition_faults tree resolved) ≡ Some fault → fault.rule ≡ Limit → IsBroken tree fault
  broken :
      (context : Context) → IsResolved tree (resolved_of context) → AreConnections context
      → IsTold tree context (Some fault) → IsBroken tree fault
