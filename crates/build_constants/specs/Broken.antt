-- When a rule is broken in a constant of a process, and at which word: said of the text, and not of what is noted.
use Rattle.std.specs.Prelude.{◌≡◌, ℤ, pos, true, List, Option, None, Some, flat_map, int_lt}
use Rattle.port_model.specs.declared.values.value.Value.{Value}
use Rattle.build_constants.specs.Counts.{counts_faults, maximum_in}
use Rattle.build_constants.specs.Timers.{timer_faults}
use Rattle.build_constants.specs.Variables.{SortedGroup, group_faults}
use Rattle.build_names.specs.FaultLaws.{Each, In}
use Rattle.build_names.specs.Faults.{Diagnostic, diagnostic_at, mark_word}
use Rattle.build_names.specs.declared.faults.fault.Rule.TheVariants.{BadCount}
use Rattle.build_expressions.specs.Broken.{IsBrokenConstant}
use Rattle.build_expressions.specs.Constants.{constant_in}
use Rattle.build_expressions.specs.Scope.{Scope}
use Rattle.build_expressions.specs.declared.scope.Constant.TheVariants as constants
use Rattle.sdl_system.specs.Operation.{number_of}
use Rattle.sdl_system.specs.declared.sort.Sort.TheVariants as sort
use Rattle.sdl_tree.specs.Tree.{Counts, Expr, TimerDefinition}
use Rattle.sdl_tree.specs.declared.mark.Mark.TheVariants as mark

-- ---- the numbers of instances

-- a part of the counts has this number: it is an accepted constant of sort Integer, and this is its value
pub record ComesTo (scope : Scope) (part : Expr) (number : ℤ) : Type 0 where
  pub value : Value
  pub constant : constant_in scope (Some sort.Integer) part ≡ constants.Value value
  pub number_is : number_of value ≡ number

-- so many instances there are at the start
pub data IsInitial (scope : Scope) (counts : Counts) : ℤ → Type 0 where
  stated :
      (part : Expr) (number : ℤ) → counts.initial ≡ Some part → ComesTo scope part number
      → IsInitial scope counts number
  left_out : counts.initial ≡ None → IsInitial scope counts (pos 1)

-- so many instances there may be at most
pub record IsMaximum (scope : Scope) (counts : Counts) (number : ℤ) : Type 0 where
  pub part : Expr
  pub part_is : maximum_in counts.bound ≡ Some part
  pub comes_to : ComesTo scope part number

-- a rule is broken in the counts
pub data BreaksCounts (scope : Scope) (counts : Counts) : Diagnostic → Type 0 where
  -- in the part before the comma, which is a constant of sort Integer
  in_initial :
      (part : Expr) (fault : Diagnostic) → counts.initial ≡ Some part →
      IsBrokenConstant scope (Some sort.Integer) part fault
      → BreaksCounts scope counts fault
  -- in the part behind it, which is one too
  in_maximum :
      (part : Expr) (fault : Diagnostic) → maximum_in counts.bound ≡ Some part
      → IsBrokenConstant scope (Some sort.Integer) part fault → BreaksCounts scope counts fault
  -- there are fewer than none at the start
  below_none :
      (initial : ℤ) → IsInitial scope counts initial → int_lt initial (pos 0) ≡ true
      → BreaksCounts scope counts (diagnostic_at BadCount (mark_word mark.Open counts.parenthesis))
  -- there may be none ever
  none_ever :
      (maximum : ℤ) → IsMaximum scope counts maximum → int_lt maximum (pos 1) ≡ true
      → BreaksCounts scope counts (diagnostic_at BadCount (mark_word mark.Open counts.parenthesis))
  -- there are more at the start than there may be at most
  above_maximum :
      (initial maximum : ℤ) → IsInitial scope counts initial → IsMaximum scope counts maximum
      → int_lt maximum initial ≡ true
      → BreaksCounts scope counts (diagnostic_at BadCount (mark_word mark.Open counts.parenthesis))

-- a rule is broken in the counts that stand behind the name of a process
pub record IsBrokenInCounts (scope : Scope) (counts : Option Counts) (fault : Diagnostic) : Type 0 where
  pub written : Counts
  pub counts_are : counts ≡ Some written
  pub broken : BreaksCounts scope written fault

-- ---- initial values and default durations

-- a rule is broken in the value that stands behind variables, which is a constant of their sort
pub record IsBrokenInValues (scope : Scope) (groups : List SortedGroup) (fault : Diagnostic) : Type 0 where
  pub sorted : SortedGroup
  pub among : In sorted groups
  pub value : Expr
  pub value_is : sorted.group.initial ≡ Some value
  pub broken : IsBrokenConstant scope sorted.sort value fault

-- a rule is broken in the default duration of a timer, which is a constant of sort Duration
pub record IsBrokenInDurations (scope : Scope) (timers : List TimerDefinition) (fault : Diagnostic) : Type 0 where
  pub definition : TimerDefinition
  pub among : In definition timers
  pub duration : Expr
  pub duration_is : definition.duration ≡ Some duration
  pub broken : IsBrokenConstant scope (Some sort.Duration) duration fault

-- ---- laws

-- Each fault of the lists is broken.
abbrev pub ListedBrokenInCounts : Type 0
ListedBrokenInCounts = (scope : Scope) (counts : Option Counts) →
    Each (IsBrokenInCounts scope counts) (counts_faults scope counts)

abbrev pub ListedBrokenInValues : Type 0
ListedBrokenInValues = (scope : Scope) (groups : List SortedGroup) →
    Each (IsBrokenInValues scope groups) (flat_map (group_faults scope) groups)

abbrev pub ListedBrokenInDurations : Type 0
ListedBrokenInDurations = (scope : Scope) (timers : List TimerDefinition) →
    Each (IsBrokenInDurations scope timers) (flat_map (timer_faults scope) timers)

-- Each that is broken is in the lists.
abbrev pub BrokenListedInCounts : Type 0
BrokenListedInCounts = (scope : Scope) (counts : Option Counts) (fault : Diagnostic) →
    IsBrokenInCounts scope counts fault →
    In fault (counts_faults scope counts)

abbrev pub BrokenListedInValues : Type 0
BrokenListedInValues = (scope : Scope) (groups : List SortedGroup) (fault : Diagnostic) →
    IsBrokenInValues scope groups fault → In fault (flat_map (group_faults scope) groups)

abbrev pub BrokenListedInDurations : Type 0
BrokenListedInDurations = (scope : Scope) (timers : List TimerDefinition) (fault : Diagnostic) →
    IsBrokenInDurations scope timers fault → In fault (flat_map (timer_faults scope) timers)
