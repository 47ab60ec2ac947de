-- The rules that are broken in a specification, each with the word where it is.
use Rattle.std.specs.Prelude.{◌≡◌, ℕ, suc, zero, ◌++◌, List, Option, Some, length, slice_get}
use Rattle.sdl_build.specs.ProcessScope.{process_scope}
use Rattle.sdl_build.specs.Context.{Resolved, Context}
use Rattle.build_definitions.specs.Parts.{all_sort_faults}
use Rattle.build_definitions.specs.Rows.{ProcessRow}
use Rattle.build_constants.specs.ConstantTable.{constant_table_faults}
use Rattle.build_definitions.specs.Meanings.{duplicate_faults}
use Rattle.build_network.specs.Network.{network_faults}
use Rattle.build_process.specs.Faulty.{NotesBody}
use Rattle.build_names.specs.Faults.{Diagnostic, Notes}
use Rattle.build_limits.specs.Limits.{limit_faults}
use Rattle.sdl_tree.specs.Tree.{Tree}

-- those of its definitions: limits that are passed, names of sorts that are none, names that are declared twice, and
-- those of constant expressions
abbrev pub definition_faults : Tree → Resolved → List Diagnostic
definition_faults tree resolved =
    limit_faults tree
    ++ (all_sort_faults tree
    ++ (duplicate_faults resolved.rows
    ++ constant_table_faults resolved.rows resolved.symbols resolved.constants))

-- those of the bodies of the first so many processes are noted in between
pub data NotesBodies (context : Context) (old : Option Diagnostic) : ℕ → Option Diagnostic → Type 0 where
  none : NotesBodies context old zero old
  more :
      (count : ℕ) (mid new : Option Diagnostic) (row : ProcessRow) → NotesBodies context old count mid
      → slice_get context.rows.processes count ≡ Some row
      → NotesBody (process_scope context (record { 0 = count }) row.definition) row.definition mid new
      → NotesBodies context old (suc count) new

-- those of the body of the process at this place
pub record NotesAt (context : Context) (place : ℕ) (old new : Option Diagnostic) : Type 0 where
  pub row : ProcessRow
  pub listed : slice_get context.rows.processes place ≡ Some row
  pub notes : NotesBody (process_scope context (record { 0 = place }) row.definition) row.definition old new

-- those of what joins its agents, and then those of all processes
pub record NotesRest (context : Context) (old new : Option Diagnostic) : Type 0 where
  pub mid : Option Diagnostic
  pub connections : Notes old mid (network_faults context.rows context.symbols)
  pub bodies : NotesBodies context mid (length context.rows.processes) new
