-- When there are too many instances at the start, all processes together: said of the processes in the order of the
-- text, and not of what is noted (Z.101: process).
use Rattle.std.specs.Prelude.{◌≡◌, ◌≤ℤ◌, ◌<ℤ◌, ◌++◌, ◌+ℤ◌, ℤ, pos, List, [], ◌∷◌, Option, None, Some}
use Rattle.build_constants.specs.Broken.{BreaksCounts, IsInitial, IsMaximum}
use Rattle.build_constants.specs.Counts.{maximum_in}
use Rattle.build_definitions.specs.Rows.{ProcessRow}
use Rattle.build_definitions.specs.Definitions.{Rows}
use Rattle.build_constants.specs.ConstantTable.{counts_at}
use Rattle.build_constants.specs.Limit.{most_instances, taken_by}
use Rattle.build_constants.specs.Scopes.{scope_in}
use Rattle.build_definitions.specs.declared.symbols.symbol_table.SymbolTable.{SymbolTable}
use Rattle.build_names.specs.Faults.{Diagnostic, diagnostic_at}
use Rattle.build_names.specs.declared.faults.fault.Rule.TheVariants.{Limit}
use Rattle.build_expressions.specs.Scope.{Scope}
use Rattle.build_expressions.specs.declared.scope.Constant.{Constant}
use Rattle.sdl_tree.specs.Tree.{Counts}

-- so many instances of the process are counted at the start; none where its numbers of instances come to nothing
abbrev pub at_start : Rows → SymbolTable → List Constant → ProcessRow → ℤ
at_start rows symbols constants process = taken_by (counts_at rows symbols constants process)

-- so many there are of all these processes together
abbrev pub all_at_start : Rows → SymbolTable → List Constant → List ProcessRow → ℤ
all_at_start rows symbols constants [] = pos 0
all_at_start rows symbols constants (process ∷ more) =
    at_start rows symbols constants process +ℤ all_at_start rows symbols constants more

-- with this process there are more than 1,000, and with those that stand before it there are not
pub record HasTooMany (rows : Rows) (symbols : SymbolTable) (constants : List Constant) (fault : Diagnostic) :
    Type 0 where
  pub before : List ProcessRow
  pub process : ProcessRow
  pub after : List ProcessRow
  pub in_text : rows.processes ≡ before ++ process ∷ after
  pub enough : all_at_start rows symbols constants before ≤ℤ most_instances
  pub too_many :
      most_instances
      <ℤ (all_at_start rows symbols constants before +ℤ at_start rows symbols constants process)
  pub told : fault ≡ diagnostic_at Limit process.definition.name

-- ---- how many one process has

-- what stands behind the comma has a number, if anything stands there
pub data IsBounded (scope : Scope) (counts : Counts) : Type 0 where
  unbounded : maximum_in counts.bound ≡ None → IsBounded scope counts
  bounded : (maximum : ℤ) → IsMaximum scope counts maximum → IsBounded scope counts

-- so many a process has at the start by its numbers of instances, where no rule is broken in them
pub data StartsWith (scope : Scope) : Option Counts → ℤ → Type 0 where
  unwritten : StartsWith scope None (pos 1)
  written :
      (counts : Counts) (number : ℤ) → IsInitial scope counts number → IsBounded scope counts
      → ((fault : Diagnostic) → BreaksCounts scope counts fault → ⊥) → StartsWith scope (Some counts) number

-- As many are counted of it.
abbrev pub InitialCounted : Type 0
InitialCounted =
    (rows : Rows) (symbols : SymbolTable) (constants : List Constant) (process : ProcessRow) (number : ℤ)
    → StartsWith (scope_in rows symbols constants process.scope) process.definition.counts number
    → at_start rows symbols constants process ≡ number
