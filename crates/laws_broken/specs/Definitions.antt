-- When a rule is broken in the definitions of a specification, and at which word: said of the text and of what its
-- names stand for, and not of what is noted.
use Rattle.std.specs.Prelude.{◌≡◌, ◌++◌, List, Some}
use Rattle.laws_broken.specs.Instances.{HasTooMany}
use Rattle.build_constants.specs.Broken.{IsBrokenInCounts}
use Rattle.build_definitions.specs.Broken.{IsUnknownSort}
use Rattle.build_definitions.specs.Parts.{all_sort_faults}
use Rattle.build_definitions.specs.Rows.{ProcessRow, SignalRow, SynonymRow, ValueRow}
use Rattle.build_definitions.specs.Definitions.{Rows}
use Rattle.build_constants.specs.ConstantTable.{duration_of, constant_table_faults, sort_of_entry}
use Rattle.build_constants.specs.Scopes.{scope_in}
use Rattle.build_definitions.specs.SymbolsBroken.{IsDeclaredTwice}
use Rattle.build_definitions.specs.Meanings.{duplicate_faults}
use Rattle.build_definitions.specs.declared.symbols.symbol_table.SymbolTable.{SymbolTable}
use Rattle.build_limits.specs.Broken.{IsLimit}
use Rattle.build_names.specs.FaultLaws.{Each, In}
use Rattle.build_names.specs.Faults.{Diagnostic}
use Rattle.build_limits.specs.Limits.{limit_faults}
use Rattle.build_expressions.specs.Broken.{IsBrokenConstant}
use Rattle.build_expressions.specs.declared.scope.Constant.{Constant}
use Rattle.sdl_system.specs.declared.sort.Sort.TheVariants as the_sort
use Rattle.sdl_tree.specs.Tree.{Expr, Tree}

-- A rule is broken in the definitions of this specification, where its tables have these rows, its names stand for what
-- `symbols` says, and its synonyms come to these constants. A constant is read in the names of the scope in which its
-- definition stands.
pub data BrokenDefinition (tree : Tree) (rows : Rows) (symbols : SymbolTable) (constants : List Constant) :
    Diagnostic → Type 0 where
  -- a limit is passed by what stands in the text
  passes_limit : (fault : Diagnostic) → IsLimit tree fault → BrokenDefinition tree rows symbols constants fault
  -- a name that stands for a sort is none's
  unknown_sort : (fault : Diagnostic) → IsUnknownSort tree fault → BrokenDefinition tree rows symbols constants fault
  -- a scope declares a name twice
  declared_twice : (fault : Diagnostic) → IsDeclaredTwice rows fault →
      BrokenDefinition tree rows symbols constants fault
  -- the expression of a synonym is no constant of its sort
  synonym :
      (row : SynonymRow) → In row rows.synonyms → (fault : Diagnostic)
      → IsBrokenConstant (scope_in rows symbols constants row.scope) row.sort row.definition.value fault
      → BrokenDefinition tree rows symbols constants fault
  -- a rule is broken in the numbers of instances of a process
  counts :
      (row : ProcessRow) → In row rows.processes → (fault : Diagnostic)
      → IsBrokenInCounts (scope_in rows symbols constants row.scope) row.definition.counts fault
      → BrokenDefinition tree rows symbols constants fault
  -- the processes have too many instances at the start
  instances :
      (fault : Diagnostic) → HasTooMany rows symbols constants fault →
      BrokenDefinition tree rows symbols constants fault
  -- the initial value of a variable is no constant of its sort
  initial :
      (row : ValueRow) → In row rows.values → (value : Expr) → row.initial ≡ Some value → (fault : Diagnostic)
      → IsBrokenConstant (scope_in rows symbols constants row.scope) (sort_of_entry row.entry) value fault
      → BrokenDefinition tree rows symbols constants fault
  -- the default duration of a timer is no constant of sort Duration
  duration :
      (row : SignalRow) → In row rows.signals → (length : Expr) → duration_of row.kind ≡ Some length →
      (fault : Diagnostic)
      → IsBrokenConstant (scope_in rows symbols constants row.scope) (Some the_sort.Duration) length fault
      → BrokenDefinition tree rows symbols constants fault

-- ---- laws

-- the faults of definitions, in the order in which they are noted
abbrev pub all_faults : Tree → Rows → SymbolTable → List Constant → List Diagnostic
all_faults tree rows symbols constants =
    limit_faults tree
    ++ (all_sort_faults tree ++ (duplicate_faults rows ++ constant_table_faults rows symbols constants))

-- Each fault of the list is broken.
abbrev pub ListedBroken : Type 0
ListedBroken = (tree : Tree) (rows : Rows) (symbols : SymbolTable) (constants : List Constant) →
    Each (BrokenDefinition tree rows symbols constants) (all_faults tree rows symbols constants)

-- Each rule that is broken is in the list.
abbrev pub BrokenListed : Type 0
BrokenListed = (tree : Tree) (rows : Rows) (symbols : SymbolTable) (constants : List Constant) (fault : Diagnostic) →
    BrokenDefinition tree rows symbols constants fault → In fault (all_faults tree rows symbols constants)
