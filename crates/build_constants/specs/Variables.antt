-- What the variables of a process begin with (Z.102: variable definition).
use Rattle.std.specs.Prelude.{List, [], Option, None, Some, option_map}
use Rattle.build_names.specs.Faults.{Diagnostic}
use Rattle.build_expressions.specs.Constants.{constant_faults, constant_in}
use Rattle.build_expressions.specs.Scope.{Scope}
use Rattle.build_expressions.specs.declared.scope.Constant.{Constant}
use Rattle.sdl_system.specs.declared.sort.Sort.{Sort}
use Rattle.sdl_tree.specs.Tree.{Expr, VariableGroup}

-- variables of one sort; None where the name of the sort is no sort's
pub record SortedGroup : Type 0 where
  pub sort : Option Sort
  pub group : VariableGroup

-- what an initial value comes to at a place of this sort: None where none stands
abbrev pub initial_in : Scope → Option Sort → Option Expr → Option Constant
initial_in scope sort initial = option_map (constant_in scope sort) initial

abbrev pub initial_faults : Scope → Option Sort → Option Expr → List Diagnostic
initial_faults scope sort None = []
initial_faults scope sort (Some expression) = constant_faults scope sort expression

-- the faults of the value that stands behind the variables of a group
abbrev pub group_faults : Scope → SortedGroup → List Diagnostic
group_faults scope sorted = initial_faults scope sorted.sort sorted.group.initial
