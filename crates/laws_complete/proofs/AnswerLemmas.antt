-- Constants and answers that break no rule have their values.
use Rattle.std.proofs.Common.{◌≡◌, ◌++◌, not, Bool, true, false, [], Option, None, Some, if◌then◌else◌, is_none, is_some, option_and_then, refl, sym, subst}
use Rattle.port_model.specs.declared.values.value.Value.{Value}
use Rattle.laws_complete.specs.Complete.{HasValue, IsComplete, IsThere}
use Rattle.laws_complete.specs.Expressions.{HasTerm}
use Rattle.build_names.specs.Faults.{fault_if, mark_word}
use Rattle.build_names.specs.declared.faults.fault.Rule.TheVariants as broken
use Rattle.build_expressions.specs.Answers.{answer_constant, answer_faults, answer_in, answer_value, answer_value_faults, comparable_in, compared_faults, comparison_for, has_order, is_comparable, is_incomparable, known}
use Rattle.build_expressions.specs.Constants.{constant_faults, constant_in, counted, counted_faults, is_miscounted, value_of, with_value}
use Rattle.build_expressions.specs.OperandSorts.{result_of}
use Rattle.build_expressions.specs.Misused.{expression_faults, place_faults}
use Rattle.build_expressions.specs.Partial.{both}
use Rattle.build_expressions.specs.Scope.{Scope}
use Rattle.build_expressions.specs.Typing.{Typed, taken_in, typed_in}
use Rattle.build_expressions.specs.Words.{first_word}
use Rattle.build_expressions.specs.declared.context.Context.TheVariants as at
use Rattle.build_expressions.specs.declared.operand_sort.OperandSort.{OperandSort}
use Rattle.build_expressions.specs.declared.scope.Constant.{Constant}
use Rattle.build_expressions.specs.declared.scope.Constant.TheVariants as constants
use Rattle.sdl_system.specs.declared.answer.Answer.TheVariants as answers
use Rattle.sdl_system.specs.declared.sort.Sort.{Sort}
use Rattle.sdl_tree.specs.Spells.Expressions.{operator_mark}
use Rattle.sdl_tree.specs.Tree.{Expr}
use Rattle.sdl_tree.specs.Tree as tree
use Rattle.sdl_tree.specs.Words.{Spot}
use Rattle.sdl_tree.specs.declared.expressions.Operator.TheVariants as operator
use Rattle.laws_complete.proofs.ExpressionLemmas.{both-there, empty-left, empty-right, fitting-given, if-so, is-there, kept, mapped-there, term-given, unbroken}

-- ---- constants

value-given : (place : Option Sort) (word : Spot) (value : Option Value) (refused : Bool) → refused ≡ false →
    (if refused then [] else fault_if (is_miscounted place value) broken.BadCount word) ≡ [] →
    HasValue (if refused then constants.Refused else with_value place value)
value-given place word value true ok is = cc
value-given place word None false ok is = cc
value-given place word (Some value) false ok is = tt

pub counted-given : (place : Option Sort) (word : Spot) (typed : Option Typed) → HasTerm typed →
    counted_faults place word typed ≡ [] → HasValue (counted place typed)
counted-given place word None has is = absurd has
counted-given place word (Some typed) has is =
    value-given place word (option_and_then value_of typed.term) typed.is_refused has.1 is

module _ (scope : Scope) (complete : IsComplete scope) where
  pub constant-given : (place : Option Sort) (expression : Expr) → constant_faults scope place expression ≡ [] →
      HasValue (constant_in scope place expression)
  constant-given place expression is =
      let taken = taken_in place (typed_in at.Constant scope expression) in
      let inside = place_faults at.Constant scope place expression in
      let here = counted_faults place (first_word expression) taken in
      counted-given place (first_word expression) taken
      (fitting-given at.Constant scope complete place expression (empty-left inside here is))
      (empty-right inside here is)

-- ---- answers

known-there : (value : Constant) → HasValue value → IsThere (known value)
known-there (constants.Value v) has = tt
known-there constants.NoValue has = has
known-there constants.Refused has = has

some-there : {A : Type 0} (found : Option A) → is_none found ≡ false → is_some found ≡ true
some-there None is = cc
some-there (Some x) is = refl

comparable : (question : Option OperandSort) (typed : Option Typed) → HasTerm typed →
    is_incomparable question typed ≡ false →
    is_comparable question typed ≡ true
comparable question None has is = absurd has
comparable None (Some typed) has is = refl
comparable (Some asked) (Some typed) has is = some-there (result_of operator.Equal asked typed.kind) is

-- a value that can be compared stays what it is
comparable-is : (question : Option OperandSort) (typed : Option Typed) → HasTerm typed →
    is_incomparable question typed ≡ false → comparable_in question typed ≡ typed
comparable-is question typed has is =
    if-so (λ found. found ≡ typed) (is_comparable question typed) typed None (comparable question typed has is) refl

compared-given : (question : Option OperandSort) (word : Spot) (typed : Option Typed) → HasTerm typed →
    compared_faults question word typed ≡ [] → HasValue (counted None (comparable_in question typed))
compared-given question word typed has is =
    let unfit = fault_if (is_incomparable question typed) broken.Sort word in
    let uncounted = counted_faults None word (comparable_in question typed) in
    let same : comparable_in question typed ≡ typed =
    comparable-is question typed has
    (unbroken (is_incomparable question typed) broken.Sort word (empty-left unfit uncounted is)) in
    counted-given None word (comparable_in question typed) (subst HasTerm (sym same) has)
    (empty-right unfit uncounted is)

module _ (scope : Scope) (question : Option OperandSort) (complete : IsComplete scope) where
  answer-value : (value : Expr) → answer_value_faults scope question value ≡ [] →
      IsThere (answer_value scope question value)
  answer-value value is =
      let typed = typed_in at.Constant scope value in
      let inside = expression_faults at.Constant scope value in
      let here = compared_faults question (first_word value) typed in
      known-there (answer_constant scope question value)
      (compared-given question (first_word value) typed
      (term-given at.Constant scope complete value (empty-left inside here is)) (empty-right inside here is))

  pub answer-given : (answer : tree.Answer) → answer_faults scope question answer ≡ [] →
      IsThere (answer_in scope question answer)
  answer-given (tree.Value value) is =
      mapped-there answers.Value (answer_value scope question value) (answer-value value is)
  answer-given (tree.Range first last) is =
      let unordered = fault_if (not (has_order question)) broken.Sort (first_word first) in
      let below = answer_value_faults scope question first in
      let above = answer_value_faults scope question last in
      let ends : below ++ above ≡ [] = empty-right unordered (below ++ above) is in
      if-so IsThere (has_order question)
      (both answers.Range (answer_value scope question first) (answer_value scope question last)) None
      (kept (has_order question) broken.Sort (first_word first) (empty-left unordered (below ++ above) is))
      (both-there answers.Range (answer_value scope question first) (answer_value scope question last)
      (answer-value first (empty-left below above ends)) (answer-value last (empty-right below above ends)))
  answer-given (tree.Compared operator word value) is =
      let sign = mark_word (operator_mark operator) word in
      let uncompared = fault_if (is_none (comparison_for question operator)) broken.Sort sign in
      let inside = answer_value_faults scope question value in
      both-there answers.Compared (comparison_for question operator) (answer_value scope question value)
      (is-there (comparison_for question operator)
      (unbroken (is_none (comparison_for question operator)) broken.Sort sign (empty-left uncompared inside is)))
      (answer-value value (empty-right uncompared inside is))
