-- When a rule is broken in an answer of a decision, and at which word: said of its values and of the question, and not
-- of what is noted (Z.102: decision).
use Rattle.std.specs.Prelude.{◌≡◌, false, Option, None, Some, option_and_then}
use Rattle.build_names.specs.FaultLaws.{Each, In}
use Rattle.build_names.specs.Faults.{Diagnostic, diagnostic_at, mark_word}
use Rattle.build_names.specs.declared.faults.fault.Rule.TheVariants.{BadCount, Sort}
use Rattle.build_expressions.specs.Answers.{answer_faults}
use Rattle.build_expressions.specs.Broken.{IsBroken}
use Rattle.build_expressions.specs.Constants.{value_of}
use Rattle.build_expressions.specs.OperandSorts.{result_of}
use Rattle.build_expressions.specs.Scope.{Scope}
use Rattle.build_expressions.specs.Typing.{Typed, typed_in}
use Rattle.build_expressions.specs.Words.{first_word}
use Rattle.build_expressions.specs.declared.context.Context.TheVariants.{Constant}
use Rattle.build_expressions.specs.declared.operand_sort.OperandSort.{OperandSort}
use Rattle.build_expressions.specs.declared.operand_sort.OperandSort.TheVariants.{Boolean, Pid}
use Rattle.build_expressions.specs.declared.operator.TypedOperation.{TypedOperation}
use Rattle.sdl_tree.specs.Spells.Expressions.{operator_mark}
use Rattle.sdl_tree.specs.Tree.{Answer, Compared, Expr, Range, Value}
use Rattle.sdl_tree.specs.Words.{Spot}
use Rattle.sdl_tree.specs.declared.expressions.Operator.{Operator}
use Rattle.sdl_tree.specs.declared.expressions.Operator.TheVariants.{Equal, Greater, GreaterOrEqual, Less, LessOrEqual, NotEqual}
use Rattle.sdl_tree.specs.declared.name.Spelling.{Spelling}

-- the word that an operator is
abbrev pub operator_word : Operator → Spelling → Spot
operator_word operator word = mark_word (operator_mark operator) word

-- ---- what an answer can be

-- the value is the answer, an end of its range, or what stands behind its operator
pub data IsValueOf : Answer → Expr → Type 0 where
  alone : (value : Expr) → IsValueOf (Value value) value
  lower : (low high : Expr) → IsValueOf (Range low high) low
  upper : (low high : Expr) → IsValueOf (Range low high) high
  behind_operator :
      (operator : Operator) (word : Spelling) (value : Expr) → IsValueOf (Compared operator word value) value

-- values of the kind have no order
pub data IsUnordered : OperandSort → Type 0 where
  truth : IsUnordered Boolean
  instance : IsUnordered Pid

-- the operator asks for an order
pub data IsOrdering : Operator → Type 0 where
  less : IsOrdering Less
  less_or_equal : IsOrdering LessOrEqual
  greater : IsOrdering Greater
  greater_or_equal : IsOrdering GreaterOrEqual

-- the operator compares values
pub data IsComparison : Operator → Type 0 where
  equal : IsComparison Equal
  not_equal : IsComparison NotEqual
  by_order : (operator : Operator) → IsOrdering operator → IsComparison operator

-- values of the kind can be compared with those of the question; where the question has no kind, all can
pub data IsComparable : Option OperandSort → OperandSort → Type 0 where
  with_any : (kind : OperandSort) → IsComparable None kind
  with_asked :
      (asked kind : OperandSort) (operation : TypedOperation) → result_of Equal asked kind ≡ Some operation
      → IsComparable (Some asked) kind

-- ---- rules

-- the value can be compared with the question's and rests on no refused synonym, but there is none
pub record IsWithoutValue (scope : Scope) (question : Option OperandSort) (value : Expr) : Type 0 where
  pub typed : Typed
  pub typed_is : typed_in Constant scope value ≡ Some typed
  pub comparable : IsComparable question typed.kind
  pub accepted : typed.is_refused ≡ false
  pub lacks : option_and_then value_of typed.term ≡ None

-- a rule is broken in a value of an answer of this question
pub data BreaksValue (scope : Scope) (question : Option OperandSort) (value : Expr) : Diagnostic → Type 0 where
  -- an expression's rule: a name stands for nothing, an operator doesn't fit, it is no constant
  inside : (fault : Diagnostic) → IsBroken Constant scope value fault → BreaksValue scope question value fault
  -- it has a kind that can't be compared with the question's
  incomparable :
      (asked : OperandSort) → question ≡ Some asked → (typed : Typed) → typed_in Constant scope value ≡ Some typed
      → result_of Equal asked typed.kind ≡ None → BreaksValue scope question value
      (diagnostic_at Sort (first_word value))
  -- it comes to no value
  no_value :
      IsWithoutValue scope question value → BreaksValue scope question value (diagnostic_at BadCount (first_word value))

-- a rule is broken in an answer of this question
pub data BreaksAnswer (scope : Scope) (question : Option OperandSort) : Answer → Diagnostic → Type 0 where
  in_value :
      {answer : Answer} (value : Expr) → IsValueOf answer value → (fault : Diagnostic)
      → BreaksValue scope question value fault → BreaksAnswer scope question answer fault
  -- a range, where the values of the question have no order
  unordered_range :
      (low high : Expr) (asked : OperandSort) → question ≡ Some asked → IsUnordered asked
      → BreaksAnswer scope question (Range low high) (diagnostic_at Sort (first_word low))
  -- an operator that asks for an order, where they have none
  unordered :
      (operator : Operator) (word : Spelling) (value : Expr) (asked : OperandSort) → question ≡ Some asked
      → IsUnordered asked → IsOrdering operator
      → BreaksAnswer scope question (Compared operator word value) (diagnostic_at Sort (operator_word operator word))
  -- an operator that doesn't compare
  no_comparison :
      (operator : Operator) (word : Spelling) (value : Expr) → (IsComparison operator → ⊥)
      → BreaksAnswer scope question (Compared operator word value) (diagnostic_at Sort (operator_word operator word))

-- ---- laws

-- Each fault of the list is broken.
abbrev pub ListedBrokenAnswer : Type 0
ListedBrokenAnswer = (scope : Scope) (question : Option OperandSort) (answer : Answer) →
    Each (BreaksAnswer scope question answer) (answer_faults scope question answer)

-- Each that is broken is in the list.
abbrev pub BrokenListedAnswer : Type 0
BrokenListedAnswer = (scope : Scope) (question : Option OperandSort) (answer : Answer) (fault : Diagnostic) →
    BreaksAnswer scope question answer fault → In fault (answer_faults scope question answer)
