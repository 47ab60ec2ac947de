-- What the constant expressions of a specification come to: counts of instances, initial values, default durations.
use Rattle.std.specs.Prelude.{ℤ, ◌++◌, List, Option, None, flat_map, map}
use Rattle.build_constants.specs.Counts.{counts_faults, counts_in}
use Rattle.build_constants.specs.Timers.{duration_faults, duration_in}
use Rattle.build_constants.specs.Variables.{initial_faults, initial_in}
use Rattle.build_constants.specs.declared.counts.InstanceCounts.{InstanceCounts}
use Rattle.build_definitions.specs.Rows.{OrdinarySignal, OrdinaryTimer, ProcessRow, SignalKind, SignalRow, ValueRow}
use Rattle.build_definitions.specs.Definitions.{Rows}
use Rattle.build_constants.specs.Limit.{limit_faults}
use Rattle.build_constants.specs.Scopes.{scope_in}
use Rattle.build_constants.specs.Synonyms.{faults_in_row}
use Rattle.build_definitions.specs.declared.symbols.symbol_table.SymbolTable.{SymbolTable}
use Rattle.build_names.specs.Faults.{Diagnostic}
use Rattle.build_expressions.specs.declared.scope.Constant.{Constant}
use Rattle.build_expressions.specs.declared.scope.ValueEntry.{ValueEntry}
use Rattle.build_expressions.specs.declared.scope.ValueEntry.TheVariants as entry
use Rattle.sdl_system.specs.declared.sort.Sort.{Sort}
use Rattle.sdl_tree.specs.Tree.{Expr}

-- ---- the numbers of instances of each process, in the names of the scope that it stands in

abbrev pub counts_at : Rows → SymbolTable → List Constant → ProcessRow → Option InstanceCounts
counts_at rows symbols constants row = counts_in (scope_in rows symbols constants row.scope) row.definition.counts

abbrev pub counts_faults_at : Rows → SymbolTable → List Constant → ProcessRow → List Diagnostic
counts_faults_at rows symbols constants row =
    counts_faults (scope_in rows symbols constants row.scope) row.definition.counts

abbrev pub all_counts : Rows → SymbolTable → List Constant → List (Option InstanceCounts)
all_counts rows symbols constants = map (counts_at rows symbols constants) rows.processes

-- ---- what each variable begins with

abbrev pub sort_of_entry : ValueEntry → Option Sort
sort_of_entry (entry.Variable number sort) = sort
sort_of_entry (entry.Synonym number sort) = sort

abbrev pub initial_at : Rows → SymbolTable → List Constant → ValueRow → Option Constant
initial_at rows symbols constants row =
    initial_in (scope_in rows symbols constants row.scope) (sort_of_entry row.entry) row.initial

abbrev pub initial_faults_at : Rows → SymbolTable → List Constant → ValueRow → List Diagnostic
initial_faults_at rows symbols constants row =
    initial_faults (scope_in rows symbols constants row.scope) (sort_of_entry row.entry) row.initial

abbrev pub all_initials : Rows → SymbolTable → List Constant → List (Option Constant)
all_initials rows symbols constants = map (initial_at rows symbols constants) rows.values

-- ---- the default duration of each timer

abbrev pub duration_of : SignalKind → Option Expr
duration_of OrdinarySignal = None
duration_of (OrdinaryTimer duration) = duration

abbrev pub duration_at : Rows → SymbolTable → List Constant → SignalRow → Option ℤ
duration_at rows symbols constants row =
    duration_in (scope_in rows symbols constants row.scope) (duration_of row.kind)

abbrev pub duration_faults_at : Rows → SymbolTable → List Constant → SignalRow → List Diagnostic
duration_faults_at rows symbols constants row =
    duration_faults (scope_in rows symbols constants row.scope) (duration_of row.kind)

abbrev pub all_durations : Rows → SymbolTable → List Constant → List (Option ℤ)
all_durations rows symbols constants = map (duration_at rows symbols constants) rows.signals

-- ---- the rules that are broken in them

abbrev pub constant_table_faults : Rows → SymbolTable → List Constant → List Diagnostic
constant_table_faults rows symbols constants =
    flat_map (faults_in_row rows symbols constants) rows.synonyms
    ++ flat_map (counts_faults_at rows symbols constants) rows.processes
    ++ limit_faults rows.processes (all_counts rows symbols constants)
    ++ flat_map (initial_faults_at rows symbols constants) rows.values
    ++ flat_map (duration_faults_at rows symbols constants) rows.signals
