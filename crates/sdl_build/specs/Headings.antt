-- What the heading of a process says, and its variables (Z.101: process, variable).
use Rattle.std.specs.Prelude.{◌≡◌, ◌<◌, ◌↔◌, ◌++◌, ℕ, ℤ, Bool, true, SomeIff, unsigned_abs, List, [], ◌∷◌, Option, None, Some, length, map, slice_get, string_bytes, if◌then◌else◌}
use Rattle.std.specs.Int.{FitsUnsignedBits}
use Rattle.port_model.specs.declared.values.item.SignalId.{SignalId}
use Rattle.port_model.specs.declared.values.value.Value.{Value}
use Rattle.sdl_build.specs.Context.{Context}
use Rattle.build_constants.specs.declared.counts.InstanceCounts.{InstanceCounts}
use Rattle.build_definitions.specs.Rows.{ProcessRow, ValueRow}
use Rattle.build_constants.specs.ConstantTable.{all_initials, counts_at}
use Rattle.build_process.specs.declared.heading.Heading.{Heading}
use Rattle.build_routes.specs.Valid.{IsValid}
use Rattle.build_routes.specs.declared.network.joined.Process as network
use Rattle.build_expressions.specs.declared.scope.Constant.{Constant}
use Rattle.build_expressions.specs.declared.scope.Constant.TheVariants as constants
use Rattle.build_expressions.specs.declared.scope.ValueEntry.{ValueEntry}
use Rattle.build_expressions.specs.declared.scope.ValueEntry.TheVariants as entry
use Rattle.build_names.specs.Spaces.{is_same_scope}
use Rattle.build_names.specs.declared.scopes.scope.ScopeId.TheVariants as scope
use Rattle.sdl_system.specs.Behaviour.{VariableMeaning, variable_meaning}
use Rattle.sdl_system.specs.Signal.{is_member}
use Rattle.sdl_system.specs.declared.id.ProcessId.{ProcessId}
use Rattle.sdl_system.specs.declared.sort.Sort.{Sort}

-- the value of a constant, where it has one
abbrev pub value_in : Option Constant → Option Value
value_in None = None
value_in (Some (constants.Value value)) = Some value
value_in (Some constants.NoValue) = None
value_in (Some constants.Refused) = None

-- the sort of a variable; what is no variable, or has no sort, has none here
abbrev pub variable_sort : ValueEntry → Option Sort
variable_sort (entry.Variable number sort) = sort
variable_sort (entry.Synonym number sort) = None

abbrev pub variable_of : ValueRow → Option Constant → Option Sort → List VariableMeaning
variable_of row initial None = []
variable_of row initial (Some sort) =
    record { name = row.name.text; sort = sort; initial = value_in initial } ∷ []

-- the variable of a row, where it is one of the process
abbrev pub variable_in : ProcessId → ValueRow → Option Constant → List VariableMeaning
variable_in process row initial = if is_same_scope row.scope (scope.Process process)
    then variable_of row initial (variable_sort row.entry)
    else []

-- the variables of a process with the values that they begin with, formal parameters first
abbrev pub variables_in : ProcessId → List ValueRow → List (Option Constant) → List VariableMeaning
variables_in process [] initials = []
variables_in process (row ∷ rows) [] = []
variables_in process (row ∷ rows) (initial ∷ initials) =
    variable_in process row initial ++ variables_in process rows initials

-- ---- counts

-- the number where it has 32 bits, else 0
abbrev pub IsNarrowed : ℤ → ℕ → Type 0
IsNarrowed number narrowed =
    (FitsUnsignedBits 32 number → narrowed ≡ unsigned_abs number) × ((FitsUnsignedBits 32 number → ⊥) → narrowed ≡ 0)

-- how many instances there are at the start, as a number of 32 bits; 0 where a rule is broken in the counts
abbrev pub IsInitial : Option InstanceCounts → ℕ → Type 0
IsInitial None initial = initial ≡ 0
IsInitial (Some counts) initial = IsNarrowed counts.initial initial

-- a bound past 32 bits bounds nothing
abbrev pub IsBound : Option ℤ → Option ℕ → Type 0
IsBound None maximum = maximum ≡ None
IsBound (Some bound) maximum = SomeIff maximum (FitsUnsignedBits 32 bound) (unsigned_abs bound)

abbrev pub IsMaximum : Option InstanceCounts → Option ℕ → Type 0
IsMaximum None maximum = maximum ≡ None
IsMaximum (Some counts) maximum = IsBound counts.maximum maximum

-- ---- valid input sets

-- The set has a place for each signal, and just those of the network that are valid for the process.
pub record IsValidSet (context : Context) (number : ProcessId) (set : List Bool) : Type 0 where
  pub size : length set ≡ length context.rows.signals
  pub members : (is : network.Process) (signal : SignalId)
      → slice_get context.network.processes.items number.0 ≡ Some is → signal.0 < context.network.signals
      → (is_member set signal ≡ true) ↔ IsValid context.network number is signal

-- what the heading of the process of this number says that has this row
pub record IsHeading (context : Context) (number : ProcessId) (row : ProcessRow) (heading : Heading) : Type 0 where
  pub name : string_bytes heading.name ≡ row.definition.name.text
  pub initial : IsInitial (counts_at context.rows context.symbols context.constants row) heading.initial
  pub maximum : IsMaximum (counts_at context.rows context.symbols context.constants row) heading.maximum
  pub parameters : heading.parameters ≡ length row.sorts
  pub variables : map variable_meaning heading.variables.items
      ≡ variables_in number context.rows.values (all_initials context.rows context.symbols context.constants)
  pub valid : IsValidSet context number heading.valid
