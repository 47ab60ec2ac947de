-- The answers of a decision (Z.102: decision): constants that can be compared with the value of its question.
use Rattle.std.specs.Prelude.{◌++◌, Bool, true, false, List, Option, None, Some, is_none, is_some, option_map, if◌then◌else◌, not}
use Rattle.port_model.specs.declared.values.value.Value.{Value}
use Rattle.build_names.specs.Faults.{Diagnostic, fault_if, mark_word}
use Rattle.build_names.specs.declared.faults.fault.Rule.TheVariants as broken
use Rattle.build_expressions.specs.Constants.{counted, counted_faults}
use Rattle.build_expressions.specs.OperandSorts.{result_of}
use Rattle.build_expressions.specs.Misused.{expression_faults}
use Rattle.build_expressions.specs.Partial.{both}
use Rattle.build_expressions.specs.Scope.{Scope}
use Rattle.build_expressions.specs.Typing.{Typed, typed_in}
use Rattle.build_expressions.specs.Words.{first_word}
use Rattle.build_expressions.specs.declared.context.Context.TheVariants as context
use Rattle.build_expressions.specs.declared.operand_sort.OperandSort.{OperandSort}
use Rattle.build_expressions.specs.declared.operand_sort.OperandSort.TheVariants as kind
use Rattle.build_expressions.specs.declared.scope.Constant.{Constant}
use Rattle.build_expressions.specs.declared.scope.Constant.TheVariants as constants
use Rattle.sdl_system.specs.declared.answer.Answer as answers
use Rattle.sdl_system.specs.declared.answer.Answer.TheVariants as answer
use Rattle.sdl_system.specs.declared.operation.Comparison.{Comparison}
use Rattle.sdl_system.specs.declared.operation.Comparison.TheVariants as comparison
use Rattle.sdl_tree.specs.Spells.Expressions.{operator_mark}
use Rattle.sdl_tree.specs.Tree.{Expr}
use Rattle.sdl_tree.specs.Tree as tree
use Rattle.sdl_tree.specs.Words.{Spot}
use Rattle.sdl_tree.specs.declared.expressions.Operator.{Operator}
use Rattle.sdl_tree.specs.declared.expressions.Operator.TheVariants as operator

-- whether the values of a question have an order; where its kind is unknown, they may
abbrev pub has_order : Option OperandSort → Bool
has_order None = true
has_order (Some kind.Boolean) = false
has_order (Some kind.Pid) = false
has_order (Some kind.Free) = true
has_order (Some kind.Integer) = true
has_order (Some kind.Time) = true
has_order (Some kind.Duration) = true

abbrev pub order_for : Option OperandSort → Comparison → Option Comparison
order_for question c = if has_order question then Some c else None

-- the comparison that an operator is before an answer of the question
abbrev pub comparison_for : Option OperandSort → Operator → Option Comparison
comparison_for question operator.Equal = Some comparison.Equal
comparison_for question operator.NotEqual = Some comparison.NotEqual
comparison_for question operator.Less = order_for question comparison.Less
comparison_for question operator.LessOrEqual = order_for question comparison.LessOrEqual
comparison_for question operator.Greater = order_for question comparison.Greater
comparison_for question operator.GreaterOrEqual = order_for question comparison.GreaterOrEqual
comparison_for question _ = None

-- ---- values of an answer

-- whether it is a value that can be compared with the question's
abbrev pub is_comparable : Option OperandSort → Option Typed → Bool
is_comparable question None = false
is_comparable None (Some typed) = true
is_comparable (Some asked) (Some typed) = is_some (result_of operator.Equal asked typed.kind)

-- whether it is a value that can't be
abbrev pub is_incomparable : Option OperandSort → Option Typed → Bool
is_incomparable question None = false
is_incomparable None (Some typed) = false
is_incomparable (Some asked) (Some typed) = is_none (result_of operator.Equal asked typed.kind)

abbrev pub comparable_in : Option OperandSort → Option Typed → Option Typed
comparable_in question typed = if is_comparable question typed then typed else None

abbrev pub answer_constant : Scope → Option OperandSort → Expr → Constant
answer_constant scope question value = counted None (comparable_in question (typed_in context.Constant scope value))

abbrev pub known : Constant → Option Value
known (constants.Value value) = Some value
known constants.NoValue = None
known constants.Refused = None

abbrev pub answer_value : Scope → Option OperandSort → Expr → Option Value
answer_value scope question value = known (answer_constant scope question value)

-- what is wrong with the value once its kind is known
abbrev pub compared_faults : Option OperandSort → Spot → Option Typed → List Diagnostic
compared_faults question word typed =
    fault_if (is_incomparable question typed) broken.Sort word
    ++ counted_faults None word (comparable_in question typed)

abbrev pub answer_value_faults : Scope → Option OperandSort → Expr → List Diagnostic
answer_value_faults scope question value =
    expression_faults context.Constant scope value
    ++ compared_faults question (first_word value) (typed_in context.Constant scope value)

-- ---- answers

-- the answer, where its values have one and can be compared so with the question's
abbrev pub answer_in : Scope → Option OperandSort → tree.Answer → Option answers.Answer
answer_in scope question (tree.Value value) = option_map answer.Value (answer_value scope question value)
answer_in scope question (tree.Range first last) = if has_order question
    then both answer.Range (answer_value scope question first) (answer_value scope question last)
    else None
answer_in scope question (tree.Compared operator word value) =
    both answer.Compared (comparison_for question operator) (answer_value scope question value)

abbrev pub answer_faults : Scope → Option OperandSort → tree.Answer → List Diagnostic
answer_faults scope question (tree.Value value) = answer_value_faults scope question value
answer_faults scope question (tree.Range first last) =
    fault_if (not (has_order question)) broken.Sort (first_word first)
    ++ (answer_value_faults scope question first ++ answer_value_faults scope question last)
answer_faults scope question (tree.Compared operator word value) =
    fault_if (is_none (comparison_for question operator)) broken.Sort (mark_word (operator_mark operator) word)
    ++ answer_value_faults scope question value
