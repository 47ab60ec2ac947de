-- The numbers of instances of a process (Z.101: process): how many there are at the start, and how many there may be at
-- most.
use Rattle.std.specs.Prelude.{ℤ, pos, ◌++◌, ◌||◌, Bool, false, List, [], Option, None, Some, int_lt, if◌then◌else◌}
use Rattle.build_constants.specs.declared.counts.InstanceCounts.{InstanceCounts}
use Rattle.build_constants.specs.declared.counts.Part.{Part}
use Rattle.build_constants.specs.declared.counts.Part.TheVariants.{LeftOut, Refused, Number}
use Rattle.build_names.specs.Faults.{Diagnostic, fault_if, mark_word}
use Rattle.build_names.specs.declared.faults.fault.Rule.TheVariants.{BadCount}
use Rattle.build_expressions.specs.Constants.{constant_faults, constant_in}
use Rattle.build_expressions.specs.Scope.{Scope}
use Rattle.build_expressions.specs.declared.scope.Constant.{Constant}
use Rattle.build_expressions.specs.declared.scope.Constant.TheVariants as constants
use Rattle.sdl_system.specs.Operation.{number_of}
use Rattle.sdl_system.specs.declared.sort.Sort.TheVariants as sort
use Rattle.sdl_tree.specs.Tree.{Bound, Counts, Expr}
use Rattle.sdl_tree.specs.declared.mark.Mark.TheVariants as mark

-- ---- the parts

-- a part that stands is a constant of sort Integer
abbrev pub number_part : Constant → Part
number_part (constants.Value value) = Number (number_of value)
number_part constants.NoValue = Refused
number_part constants.Refused = Refused

abbrev pub part_in : Scope → Option Expr → Part
part_in scope None = LeftOut
part_in scope (Some expression) = number_part (constant_in scope (Some sort.Integer) expression)

abbrev pub part_faults : Scope → Option Expr → List Diagnostic
part_faults scope None = []
part_faults scope (Some expression) = constant_faults scope (Some sort.Integer) expression

-- the part behind the comma
abbrev pub maximum_in : Option Bound → Option Expr
maximum_in None = None
maximum_in (Some bound) = bound.maximum

-- ---- the conditions on their numbers

-- fewer than no instance at the start
abbrev pub is_negative : Part → Bool
is_negative (Number initial) = int_lt initial (pos 0)
is_negative LeftOut = false
is_negative Refused = false

-- never any instance
abbrev pub allows_none : Part → Bool
allows_none (Number maximum) = int_lt maximum (pos 1)
allows_none LeftOut = false
allows_none Refused = false

abbrev pub is_above : ℤ → Part → Bool
is_above initial (Number maximum) = int_lt maximum initial
is_above initial LeftOut = false
is_above initial Refused = false

-- more at the start than there may be at most
abbrev pub exceeds : Part → Part → Bool
exceeds (Number initial) maximum = is_above initial maximum
exceeds LeftOut maximum = false
exceeds Refused maximum = false

-- whether a condition on an initial number and a maximum is broken: they are asked of those parts that have a number
abbrev pub are_misfit : Part → Part → Bool
are_misfit initial maximum = is_negative initial || (allows_none maximum || exceeds initial maximum)

-- ---- the counts

abbrev pub with_maximum : ℤ → Part → Option InstanceCounts
with_maximum initial LeftOut = Some (record { initial = initial; maximum = None })
with_maximum initial (Number maximum) = Some (record { initial = initial; maximum = Some maximum })
with_maximum initial Refused = None

-- without an initial number it is 1, without a maximum there is no bound
abbrev pub with_parts : Part → Part → Option InstanceCounts
with_parts LeftOut maximum = with_maximum (pos 1) maximum
with_parts (Number initial) maximum = with_maximum initial maximum
with_parts Refused maximum = None

abbrev pub accepted : Part → Part → Option InstanceCounts
accepted initial maximum = if are_misfit initial maximum then None else with_parts initial maximum

-- the numbers of instances that a process has; None where a rule is broken in them
abbrev pub counts_in : Scope → Option Counts → Option InstanceCounts
counts_in scope None = Some (record { initial = pos 1; maximum = None })
counts_in scope (Some counts) = accepted (part_in scope counts.initial) (part_in scope (maximum_in counts.bound))

-- the rules that are broken in them: those of each part, and at the parenthesis those on their numbers
abbrev pub counts_faults : Scope → Option Counts → List Diagnostic
counts_faults scope None = []
counts_faults scope (Some counts) =
    part_faults scope counts.initial
    ++ (part_faults scope (maximum_in counts.bound)
    ++ fault_if (are_misfit (part_in scope counts.initial) (part_in scope (maximum_in counts.bound))) BadCount
    (mark_word mark.Open counts.parenthesis))
