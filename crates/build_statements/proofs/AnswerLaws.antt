-- The faults of an answer are the rules that are broken in it.
use Rattle.std.proofs.Common.{◌≡◌, ◌∙◌, ◌++◌, not, Bool, true, false, [], Option, None, Some, option_and_then, is_none, is_some, if◌then◌else◌, refl, sym, ap, subst}
use Rattle.port_model.specs.declared.values.value.Value as values
use Rattle.build_statements.specs.BrokenAnswers.{operator_word, BreaksAnswer, BreaksValue, IsComparable, IsComparison, IsOrdering, IsUnordered, IsValueOf}
use Rattle.build_statements.specs.BrokenAnswers as broken
use Rattle.build_names.proofs.FaultLemmas.{each-both, each-if, in-if, in-left, in-right}
use Rattle.build_names.specs.FaultLaws.{Each, In}
use Rattle.build_names.specs.Faults.{Diagnostic, fault_if, diagnostic_at}
use Rattle.build_names.specs.declared.faults.fault.Rule.TheVariants.{BadCount, Sort}
use Rattle.build_expressions.specs.Answers.{answer_faults, answer_value_faults, comparable_in, compared_faults, comparison_for, has_order, is_incomparable}
use Rattle.build_expressions.specs.Broken as sorted
use Rattle.build_expressions.specs.Constants.{counted_faults, is_miscounted, value_of}
use Rattle.build_expressions.specs.OperandSorts.{result_of}
use Rattle.build_expressions.specs.Misused.{expression_faults}
use Rattle.build_expressions.specs.Scope.{Scope}
use Rattle.build_expressions.specs.Typing.{Typed, typed_in}
use Rattle.build_expressions.specs.Words.{first_word}
use Rattle.build_expressions.specs.declared.context.Context.TheVariants.{Constant}
use Rattle.build_expressions.specs.declared.operand_sort.OperandSort.{OperandSort}
use Rattle.build_expressions.specs.declared.operand_sort.OperandSort.TheVariants as kind
use Rattle.build_expressions.specs.declared.operator.TypedOperation.{TypedOperation}
use Rattle.build_expressions.proofs.BrokenLaws.{broken-listed}
use Rattle.build_expressions.proofs.ListedLaws.{each-weaker, listed-broken, not-true}
use Rattle.sdl_system.specs.declared.operation.Comparison.{Comparison}
use Rattle.sdl_system.specs.declared.operation.Comparison.TheVariants as comparison
use Rattle.sdl_tree.specs.Tree.{Answer, Compared, Expr, Range, Value}
use Rattle.sdl_tree.specs.Words.{Spot}
use Rattle.sdl_tree.specs.declared.expressions.Operator.{Operator}
use Rattle.sdl_tree.specs.declared.expressions.Operator.TheVariants as operators
use Rattle.sdl_tree.specs.declared.name.Spelling.{Spelling}

-- ---- values

without : (found : Option values.Value) → is_miscounted None found ≡ true → found ≡ None
without None is = refl
without (Some v) is = cc

module _ (scope : Scope) where
  each-counted : (question : Option OperandSort) (value : Expr) (typed : Typed) →
      typed_in Constant scope value ≡ Some typed →
      IsComparable question typed.kind → (refused : Bool) → typed.is_refused ≡ refused →
      Each (BreaksValue scope question value) (if refused
      then []
      else fault_if (is_miscounted None (option_and_then value_of typed.term)) BadCount (first_word value))
  each-counted question value typed typed_is comparable true refused_is = tt
  each-counted question value typed typed_is comparable false refused_is =
      each-if (BreaksValue scope question value) (is_miscounted None (option_and_then value_of typed.term)) BadCount
      (first_word value) (λ lacking. broken.no_value (record {
        typed = typed;
        typed_is = typed_is;
        comparable = comparable;
        accepted = refused_is;
        lacks = without (option_and_then value_of typed.term) lacking;
      }))

  each-asked : (asked : OperandSort) (value : Expr) (typed : Typed) → typed_in Constant scope value ≡ Some typed →
      (found : Option TypedOperation) → result_of operators.Equal asked typed.kind ≡ found →
      Each (BreaksValue scope (Some asked) value) (fault_if (is_none found) Sort (first_word value)
      ++ counted_faults None (first_word value) (if is_some found then Some typed else None))
  each-asked asked value typed typed_is None is = (broken.incomparable asked refl typed typed_is is, tt)
  each-asked asked value typed typed_is (Some operation) is =
      each-counted (Some asked) value typed typed_is (broken.with_asked asked typed.kind operation is) typed.is_refused
      refl

  each-compared : (question : Option OperandSort) (value : Expr) (typed : Option Typed) →
      typed_in Constant scope value ≡ typed →
      Each (BreaksValue scope question value) (compared_faults question (first_word value) typed)
  each-compared None value None is = tt
  each-compared (Some asked) value None is = tt
  each-compared None value (Some typed) is =
      each-counted None value typed is (broken.with_any typed.kind) typed.is_refused refl
  each-compared (Some asked) value (Some typed) is =
      each-asked asked value typed is (result_of operators.Equal asked typed.kind) refl

  each-value : (question : Option OperandSort) (value : Expr) →
      Each (BreaksValue scope question value) (answer_value_faults scope question value)
  each-value question value =
      let P : Diagnostic → Type 0 = BreaksValue scope question value in
      each-both P (expression_faults Constant scope value)
      (compared_faults question (first_word value) (typed_in Constant scope value))
      (each-weaker (sorted.IsBroken Constant scope value) P (expression_faults Constant scope value)
      (λ fault is. broken.inside fault is) (listed-broken Constant scope value))
      (each-compared question value (typed_in Constant scope value) refl)

-- ---- order

record Unordered (question : Option OperandSort) : Type 0 where
  asked : OperandSort
  is : question ≡ Some asked
  unordered : IsUnordered asked

unordered-of : (question : Option OperandSort) → has_order question ≡ false → Unordered question
unordered-of None isnt = cc
unordered-of (Some kind.Boolean) isnt = record { asked = kind.Boolean; is = refl; unordered = broken.truth }
unordered-of (Some kind.Pid) isnt = record { asked = kind.Pid; is = refl; unordered = broken.instance }
unordered-of (Some kind.Free) isnt = cc
unordered-of (Some kind.Integer) isnt = cc
unordered-of (Some kind.Time) isnt = cc
unordered-of (Some kind.Duration) isnt = cc

no-order : (question : Option OperandSort) (asked : OperandSort) → question ≡ Some asked → IsUnordered asked →
    has_order question ≡ false
no-order question asked is unordered = ap has_order is ∙ one asked unordered
  where
    one : (k : OperandSort) → IsUnordered k → has_order (Some k) ≡ false
    one k broken.truth = refl
    one k broken.instance = refl

no-comparison : (ordered : Bool) (c : Comparison) → is_none (if ordered then Some c else None) ≡ true → ordered ≡ false
no-comparison true c is = cc
no-comparison false c is = refl

none-ordered : (ordered : Bool) (c : Comparison) → ordered ≡ false → is_none (if ordered then Some c else None) ≡ true
none-ordered true c isnt = cc
none-ordered false c isnt = refl

abbrev compares : Operator → Bool
compares operators.Equal = true
compares operators.NotEqual = true
compares operators.Less = true
compares operators.LessOrEqual = true
compares operators.Greater = true
compares operators.GreaterOrEqual = true
compares _ = false

ordering-compares : (operator : Operator) → IsOrdering operator → compares operator ≡ true
ordering-compares operator broken.less = refl
ordering-compares operator broken.less_or_equal = refl
ordering-compares operator broken.greater = refl
ordering-compares operator broken.greater_or_equal = refl

is-compares : (operator : Operator) → IsComparison operator → compares operator ≡ true
is-compares operator broken.equal = refl
is-compares operator broken.not_equal = refl
is-compares operator (broken.by_order o ordering) = ordering-compares o ordering

compares-not : (operator : Operator) → compares operator ≡ false → IsComparison operator → ⊥
compares-not operator isnt is = let never : false ≡ true = sym isnt ∙ is-compares operator is in cc

-- ---- answers

module _ (scope : Scope) (question : Option OperandSort) where
  by-order : (operator : Operator) (word : Spelling) (value : Expr) (c : Comparison) → IsOrdering operator →
      is_none (if has_order question then Some c else None) ≡ true →
      BreaksAnswer scope question (Compared operator word value) (diagnostic_at Sort (operator_word operator word))
  by-order operator word value c ordering is =
      let un = unordered-of question (no-comparison (has_order question) c is) in
      broken.unordered operator word value un.asked un.is un.unordered ordering

  uncompared : (operator : Operator) (word : Spelling) (value : Expr) → compares operator ≡ false →
      BreaksAnswer scope question (Compared operator word value) (diagnostic_at Sort (operator_word operator word))
  uncompared operator word value isnt = broken.no_comparison operator word value (compares-not operator isnt)

  compared-broken : (operator : Operator) (word : Spelling) (value : Expr) →
      is_none (comparison_for question operator) ≡ true →
      BreaksAnswer scope question (Compared operator word value) (diagnostic_at Sort (operator_word operator word))
  compared-broken operators.Equal word value is = cc
  compared-broken operators.NotEqual word value is = cc
  compared-broken operators.Less word value is = by-order operators.Less word value _ broken.less is
  compared-broken operators.LessOrEqual word value is =
      by-order operators.LessOrEqual word value _ broken.less_or_equal is
  compared-broken operators.Greater word value is = by-order operators.Greater word value _ broken.greater is
  compared-broken operators.GreaterOrEqual word value is =
      by-order operators.GreaterOrEqual word value _ broken.greater_or_equal is
  compared-broken operators.Implies word value is = uncompared operators.Implies word value refl
  compared-broken operators.Or word value is = uncompared operators.Or word value refl
  compared-broken operators.Xor word value is = uncompared operators.Xor word value refl
  compared-broken operators.And word value is = uncompared operators.And word value refl
  compared-broken operators.Plus word value is = uncompared operators.Plus word value refl
  compared-broken operators.Minus word value is = uncompared operators.Minus word value refl
  compared-broken operators.Times word value is = uncompared operators.Times word value refl
  compared-broken operators.Divide word value is = uncompared operators.Divide word value refl
  compared-broken operators.Mod word value is = uncompared operators.Mod word value refl
  compared-broken operators.Rem word value is = uncompared operators.Rem word value refl

  each-part : (answer : Answer) (value : Expr) → IsValueOf answer value →
      Each (BreaksAnswer scope question answer) (answer_value_faults scope question value)
  each-part answer value is =
      each-weaker (BreaksValue scope question value) (BreaksAnswer scope question answer)
      (answer_value_faults scope question value) (λ fault breaks. broken.in_value value is fault breaks)
      (each-value scope question value)

  each-answer : (answer : Answer) →
      Each (BreaksAnswer scope question answer) (answer_faults scope question answer)
  each-answer (Value value) = each-part (Value value) value (broken.alone value)
  each-answer (Range low high) =
      let P : Diagnostic → Type 0 = BreaksAnswer scope question (Range low high) in
      each-both P (fault_if (not (has_order question)) Sort (first_word low))
      (answer_value_faults scope question low ++ answer_value_faults scope question high)
      (each-if P (not (has_order question)) Sort (first_word low) (λ isnt.
      let un = unordered-of question (not-true (has_order question) isnt) in
      broken.unordered_range low high un.asked un.is un.unordered))
      (each-both P (answer_value_faults scope question low) (answer_value_faults scope question high)
      (each-part (Range low high) low (broken.lower low high))
      (each-part (Range low high) high (broken.upper low high)))
  each-answer (Compared operator word value) =
      let P : Diagnostic → Type 0 = BreaksAnswer scope question (Compared operator word value) in
      each-both P (fault_if (is_none (comparison_for question operator)) Sort (operator_word operator word))
      (answer_value_faults scope question value)
      (each-if P (is_none (comparison_for question operator)) Sort (operator_word operator word)
      (compared-broken operator word value))
      (each-part (Compared operator word value) value (broken.behind_operator operator word value))

pub listed-answer : (scope : Scope) (question : Option OperandSort) (answer : Answer) →
    Each (BreaksAnswer scope question answer) (answer_faults scope question answer)
listed-answer scope question answer = each-answer scope question answer

-- ---- the other way

in-compared : (question : Option OperandSort) (k : OperandSort) → IsComparable question k → (typed : Typed) →
    k ≡ typed.kind →
    (word : Spot) (fault : Diagnostic) → In fault (counted_faults None word (Some typed)) →
    In fault (compared_faults question word (Some typed))
in-compared question k (broken.with_any same) typed is word fault at = at
in-compared question k (broken.with_asked asked same operation found_is) typed is word fault at =
    subst (λ found. In fault (fault_if (is_none found) Sort word
    ++ counted_faults None word (if is_some found then Some typed else None)))
    (sym (ap (result_of operators.Equal asked) (sym is) ∙ found_is)) at

in-counted : (typed : Typed) (word : Spot) (refused : Bool) → refused ≡ false →
    option_and_then value_of typed.term ≡ None →
    In (diagnostic_at BadCount word) (if refused
    then []
    else fault_if (is_miscounted None (option_and_then value_of typed.term)) BadCount word)
in-counted typed word true accepted is = cc
in-counted typed word false accepted is =
    in-if (is_miscounted None (option_and_then value_of typed.term)) BadCount word (ap (is_miscounted None) is)

module _ (scope : Scope) (question : Option OperandSort) where
  in-value : (value : Expr) (fault : Diagnostic) → BreaksValue scope question value fault →
      In fault (answer_value_faults scope question value)
  in-value value fault (broken.inside told is) =
      in-left told (expression_faults Constant scope value)
      (compared_faults question (first_word value) (typed_in Constant scope value))
      (broken-listed Constant scope value told is)
  in-value value fault (broken.incomparable asked question_is typed typed_is none) =
      let told = diagnostic_at Sort (first_word value) in
      in-right told (expression_faults Constant scope value)
      (compared_faults question (first_word value) (typed_in Constant scope value))
      (subst (λ q. In told (compared_faults q (first_word value) (typed_in Constant scope value))) (sym question_is)
      (subst (λ found. In told (compared_faults (Some asked) (first_word value) found)) (sym typed_is)
      (in-left told (fault_if (is_incomparable (Some asked) (Some typed)) Sort (first_word value))
      (counted_faults None (first_word value) (comparable_in (Some asked) (Some typed)))
      (in-if (is_incomparable (Some asked) (Some typed)) Sort (first_word value) (ap is_none none)))))
  in-value value fault (broken.no_value at) =
      let told = diagnostic_at BadCount (first_word value) in
      in-right told (expression_faults Constant scope value)
      (compared_faults question (first_word value) (typed_in Constant scope value))
      (subst (λ found. In told (compared_faults question (first_word value) found)) (sym at.typed_is)
      (in-compared question at.typed.kind at.comparable at.typed refl (first_word value) told
      (in-counted at.typed (first_word value) at.typed.is_refused at.accepted at.lacks)))

  in-part : (answer : Answer) (value : Expr) → IsValueOf answer value → (fault : Diagnostic) →
      In fault (answer_value_faults scope question value) → In fault (answer_faults scope question answer)
  in-part answer value (broken.alone v) fault at = at
  in-part answer value (broken.lower low high) fault at =
      in-right fault (fault_if (not (has_order question)) Sort (first_word low))
      (answer_value_faults scope question low ++ answer_value_faults scope question high)
      (in-left fault (answer_value_faults scope question low) (answer_value_faults scope question high) at)
  in-part answer value (broken.upper low high) fault at =
      in-right fault (fault_if (not (has_order question)) Sort (first_word low))
      (answer_value_faults scope question low ++ answer_value_faults scope question high)
      (in-right fault (answer_value_faults scope question low) (answer_value_faults scope question high) at)
  in-part answer value (broken.behind_operator operator word v) fault at =
      in-right fault
      (fault_if (is_none (comparison_for question operator)) Sort (operator_word operator word))
      (answer_value_faults scope question v) at

  ordered-none : (operator : Operator) → IsOrdering operator → has_order question ≡ false →
      is_none (comparison_for question operator) ≡ true
  ordered-none operator broken.less isnt = none-ordered (has_order question) comparison.Less isnt
  ordered-none operator broken.less_or_equal isnt = none-ordered (has_order question) comparison.LessOrEqual isnt
  ordered-none operator broken.greater isnt = none-ordered (has_order question) comparison.Greater isnt
  ordered-none operator broken.greater_or_equal isnt = none-ordered (has_order question) comparison.GreaterOrEqual isnt

  compared-none : (operator : Operator) → (IsComparison operator → ⊥) →
      is_none (comparison_for question operator) ≡ true
  compared-none operators.Equal isnt = absurd (isnt broken.equal)
  compared-none operators.NotEqual isnt = absurd (isnt broken.not_equal)
  compared-none operators.Less isnt = absurd (isnt (broken.by_order operators.Less broken.less))
  compared-none operators.LessOrEqual isnt =
      absurd (isnt (broken.by_order operators.LessOrEqual broken.less_or_equal))
  compared-none operators.Greater isnt = absurd (isnt (broken.by_order operators.Greater broken.greater))
  compared-none operators.GreaterOrEqual isnt =
      absurd (isnt (broken.by_order operators.GreaterOrEqual broken.greater_or_equal))
  compared-none operators.Implies isnt = refl
  compared-none operators.Or isnt = refl
  compared-none operators.Xor isnt = refl
  compared-none operators.And isnt = refl
  compared-none operators.Plus isnt = refl
  compared-none operators.Minus isnt = refl
  compared-none operators.Times isnt = refl
  compared-none operators.Divide isnt = refl
  compared-none operators.Mod isnt = refl
  compared-none operators.Rem isnt = refl

  in-operator : (operator : Operator) (word : Spelling) (value : Expr) →
      is_none (comparison_for question operator) ≡ true →
      In (diagnostic_at Sort (operator_word operator word))
      (answer_faults scope question (Compared operator word value))
  in-operator operator word value none =
      in-left (diagnostic_at Sort (operator_word operator word))
      (fault_if (is_none (comparison_for question operator)) Sort (operator_word operator word))
      (answer_value_faults scope question value)
      (in-if (is_none (comparison_for question operator)) Sort (operator_word operator word) none)

  in-answer : (answer : Answer) (fault : Diagnostic) → BreaksAnswer scope question answer fault →
      In fault (answer_faults scope question answer)
  in-answer answer fault (broken.in_value value is told breaks) =
      in-part answer value is told (in-value value told breaks)
  in-answer answer fault (broken.unordered_range low high asked is unordered) =
      in-left (diagnostic_at Sort (first_word low)) (fault_if (not (has_order question)) Sort (first_word low))
      (answer_value_faults scope question low ++ answer_value_faults scope question high)
      (in-if (not (has_order question)) Sort (first_word low) (ap not (no-order question asked is unordered)))
  in-answer answer fault (broken.unordered operator word value asked is unordered ordering) =
      in-operator operator word value (ordered-none operator ordering (no-order question asked is unordered))
  in-answer answer fault (broken.no_comparison operator word value isnt) =
      in-operator operator word value (compared-none operator isnt)

pub answer-listed : (scope : Scope) (question : Option OperandSort) (answer : Answer) (fault : Diagnostic) →
    BreaksAnswer scope question answer fault → In fault (answer_faults scope question answer)
answer-listed scope question answer fault breaks = in-answer scope question answer fault breaks
