-- Expressions that break no rule have a term.
use Rattle.std.proofs.Common.{◌≡◌, ◌&&◌, ◌||◌, ◌==◌, ◌++◌, not, Bool, true, false, List, [], ◌∷◌, Option, None, Some, flat_map, if◌then◌else◌, is_none, length, map, option_map, refl, sym, subst}
use Rattle.std.proofs.lemmas.Bool.{eqb-true}
use Rattle.laws_complete.specs.Complete.{HasValue, IsComplete, IsCompleteValue, IsThere}
use Rattle.laws_complete.specs.Expressions.{HasTerm}
use Rattle.build_names.specs.Faults.{fault_if, diagnostic_at, mark_word}
use Rattle.build_names.specs.declared.faults.fault.Rule as faults
use Rattle.build_names.specs.declared.faults.fault.Rule.TheVariants as broken
use Rattle.build_expressions.specs.Contexts.{allows_instance, allows_word}
use Rattle.build_expressions.specs.OperandSorts.{fits, result_of, unary_result_of}
use Rattle.build_expressions.specs.Misused.{active_faults, binary_faults, expression_faults, fault_of_place, links_faults, list_faults, misplaced, name_faults, place_faults, places_faults, timer_faults, unary_faults, values_faults}
use Rattle.build_expressions.specs.Partial.{both}
use Rattle.build_expressions.specs.Scope.{Scope, SignalMeaning, signal, timer, signal_in, value_in}
use Rattle.build_expressions.specs.Typing.{Argument, Typed, active_term, active_typed, activity, any_refused, are_taken, argument_in, argument_refused, argument_term, argument_terms, arguments_in, binary_typed, chain_typed, is_refused_in, is_taken, joined_by, name_typed, of_synonym, of_variable, taken_in, taken_term, taken_terms, term_in, typed_in, unary_typed, with_operation, word_typed}
use Rattle.build_expressions.specs.Words.{first_word}
use Rattle.build_expressions.specs.declared.context.Context as contexts
use Rattle.build_expressions.specs.declared.operator.TypedOperation.{TypedOperation}
use Rattle.build_expressions.specs.declared.operator.TypedUnaryOperation.{TypedUnaryOperation}
use Rattle.build_expressions.specs.declared.scope.Constant.{Constant}
use Rattle.build_expressions.specs.declared.scope.Constant.TheVariants as constants
use Rattle.build_expressions.specs.declared.scope.ValueMeaning.{ValueMeaning}
use Rattle.build_expressions.specs.declared.scope.ValueMeaning.TheVariants as meant
use Rattle.sdl_system.specs.declared.id.VariableId.{VariableId}
use Rattle.sdl_system.specs.declared.sort.Sort.{Sort}
use Rattle.sdl_tree.specs.Spells.Expressions.{operator_mark, unary_mark, value_mark}
use Rattle.sdl_tree.specs.Tree.{Expr, Exprs, Links, Numeral, Named, Keyword, Active, Paren, Unary, Chain, NoExpr, AndExpr, NoLink, AndLink}
use Rattle.sdl_tree.specs.Words.{Spot}
use Rattle.sdl_tree.specs.declared.expressions.KeywordValue.{KeywordValue}
use Rattle.sdl_tree.specs.declared.expressions.KeywordValue.TheVariants as keyword
use Rattle.sdl_tree.specs.declared.expressions.Operator.{Operator}
use Rattle.sdl_tree.specs.declared.expressions.UnaryOperator.{UnaryOperator}
use Rattle.sdl_tree.specs.declared.mark.Mark.TheVariants as mark
use Rattle.sdl_tree.specs.declared.name.Spelling.{Spelling}

-- ---- lists of faults that are empty

pub empty-left : {A : Type 0} (xs ys : List A) → xs ++ ys ≡ [] → xs ≡ []
empty-left [] ys is = refl
empty-left (x ∷ xs) ys is = cc

pub empty-right : {A : Type 0} (xs ys : List A) → xs ++ ys ≡ [] → ys ≡ []
empty-right [] ys is = is
empty-right (x ∷ xs) ys is = cc

-- a rule that isn't noted isn't broken
pub unbroken : (b : Bool) (rule : faults.Rule) (word : Spot) → fault_if b rule word ≡ [] → b ≡ false
unbroken true rule word is = cc
unbroken false rule word is = refl

-- ---- booleans

pub not-false : (b : Bool) → not b ≡ false → b ≡ true
not-false true is = refl
not-false false is = cc

-- a rule that must hold
pub kept : (b : Bool) (rule : faults.Rule) (word : Spot) → fault_if (not b) rule word ≡ [] → b ≡ true
kept b rule word is = not-false b (unbroken (not b) rule word is)

both-true : (a b : Bool) → a ≡ true → b ≡ true → (a && b) ≡ true
both-true true b is also = also
both-true false b is also = cc

neither : (a b : Bool) → a ≡ false → b ≡ false → (a || b) ≡ false
neither true b is also = cc
neither false b is also = also

-- ---- values that are there

pub is-there : {A : Type 0} (found : Option A) → is_none found ≡ false → IsThere found
is-there None is = cc
is-there (Some x) is = tt

pub mapped-there : {A B : Type 0} (f : A → B) (found : Option A) → IsThere found → IsThere (option_map f found)
mapped-there f None has = has
mapped-there f (Some x) has = tt

pub both-there : {A B C : Type 0} (f : A → B → C) (a : Option A) (b : Option B) → IsThere a → IsThere b →
    IsThere (both f a b)
both-there f None b has also = has
both-there f (Some x) None has also = also
both-there f (Some x) (Some y) has also = tt

-- what holds of the first of two where it is the one
pub if-so : {A : Type 0} (P : A → Type 0) (b : Bool) (one other : A) → b ≡ true → P one →
    P (if b then one else other)
if-so P true one other is has = has
if-so P false one other is has = absurd (let never : ⊥ = cc in never)

-- ---- names and words

variable-given : (number : VariableId) (sort : Option Sort) → IsThere sort →
    HasTerm (option_map (of_variable number) sort)
variable-given number None has = has
variable-given number (Some sort) has = (tt, refl)

synonym-given : (sort : Option Sort) (value : Constant) → IsThere sort → HasValue value →
    HasTerm (option_map (of_synonym value) sort)
synonym-given None value has also = has
synonym-given (Some sort) (constants.Value v) has also = (tt, refl)
synonym-given (Some sort) constants.NoValue has also = absurd also
synonym-given (Some sort) constants.Refused has also = absurd also

name-given : (context : contexts.Context) (name : Spot) (found : Option ValueMeaning) →
    ((meaning : ValueMeaning) → found ≡ Some meaning → IsCompleteValue meaning) → name_faults context name found ≡ [] →
    HasTerm (name_typed context found)
name-given context name None complete is = cc
name-given context name (Some (meant.Variable number sort)) complete is =
    if-so HasTerm (allows_instance context) (option_map (of_variable number) sort) None
    (kept (allows_instance context) broken.Sort name is)
    (variable-given number sort (complete (meant.Variable number sort) refl))
name-given context name (Some (meant.Synonym sort value)) complete is =
    let has : IsCompleteValue (meant.Synonym sort value) = complete (meant.Synonym sort value) refl in
    synonym-given sort value has.0 has.1

word-plain : (value : KeywordValue) → HasTerm (Some (word_typed value))
word-plain keyword.True = (tt, refl)
word-plain keyword.False = (tt, refl)
word-plain keyword.Null = (tt, refl)
word-plain keyword.Now = (tt, refl)
word-plain keyword.SelfPid = (tt, refl)
word-plain keyword.Parent = (tt, refl)
word-plain keyword.Offspring = (tt, refl)
word-plain keyword.Sender = (tt, refl)

-- ---- operators

unary-result : (operand : Typed) (result : Option TypedUnaryOperation) → HasTerm (Some operand) →
    is_none result ≡ false → HasTerm (option_map (with_operation operand) result)
unary-result operand None has is = cc
unary-result operand (Some result) has is = (mapped-there _ operand.term has.0, has.1)

unary-given : (operator : UnaryOperator) (word : Spelling) (operand : Option Typed) → HasTerm operand →
    unary_faults operator word operand ≡ [] → HasTerm (unary_typed operator operand)
unary-given operator word None has is = has
unary-given operator word (Some operand) has is =
    unary-result operand (unary_result_of operator operand.kind) has
    (unbroken (is_none (unary_result_of operator operand.kind)) broken.Sort (mark_word (unary_mark operator) word) is)

binary-result : (left right : Typed) (result : Option TypedOperation) → HasTerm (Some left) → HasTerm (Some right) →
    is_none result ≡ false → HasTerm (option_map (joined_by left right) result)
binary-result left right None has also is = cc
binary-result left right (Some result) has also is =
    (both-there _ left.term right.term has.0 also.0, neither left.is_refused right.is_refused has.1 also.1)

binary-given : (operator : Operator) (word : Spelling) (left right : Option Typed) → HasTerm left → HasTerm right →
    binary_faults operator word left right ≡ [] → HasTerm (binary_typed operator left right)
binary-given operator word None right has also is = has
binary-given operator word (Some left) None has also is = also
binary-given operator word (Some left) (Some right) has also is =
    binary-result left right (result_of operator left.kind right.kind) has also
    (unbroken (is_none (result_of operator left.kind right.kind)) broken.Sort
    (mark_word (operator_mark operator) word) is)

-- ---- values at places

abbrev pub AllGiven : List Argument → Type 0
AllGiven [] = Unit {0}
AllGiven (argument ∷ arguments) = HasTerm argument.typed × AllGiven arguments

one-taken : (place : Option Sort) (word : Spot) (typed : Option Typed) → HasTerm typed →
    fault_of_place place word typed ≡ [] → is_taken place typed ≡ true
one-taken place word None has is = absurd has
one-taken None word (Some typed) has is = refl
one-taken (Some sort) word (Some typed) has is = kept (fits typed.kind sort) broken.Sort word is

all-taken : (places : List (Option Sort)) (arguments : List Argument) → length arguments ≡ length places →
    AllGiven arguments → misplaced places arguments ≡ [] → are_taken places arguments ≡ true
all-taken [] [] same has is = refl
all-taken [] (argument ∷ arguments) same has is = absurd (let never : ⊥ = cc in never)
all-taken (place ∷ places) [] same has is = absurd (let never : ⊥ = cc in never)
all-taken (place ∷ places) (argument ∷ arguments) same has is =
    let here = fault_of_place place argument.word argument.typed in
    let behind = misplaced places arguments in
    both-true (is_taken place argument.typed) (are_taken places arguments)
    (one-taken place argument.word argument.typed has.0 (empty-left here behind is))
    (all-taken places arguments (let e : _ = cc in e) has.1 (empty-right here behind is))

counted-taken : (name : Spot) (places : List (Option Sort)) (arguments : List Argument) (same : Bool) →
    (length arguments == length places) ≡ same → AllGiven arguments →
    (if same then misplaced places arguments else diagnostic_at broken.Sort name ∷ []) ≡ [] →
    are_taken places arguments ≡ true
counted-taken name places arguments true same has is =
    all-taken places arguments (eqb-true (length arguments) (length places) same) has is
counted-taken name places arguments false same has is = cc

pub places-taken : (name : Spot) (places : List (Option Sort)) (arguments : List Argument) → AllGiven arguments →
    places_faults name places arguments ≡ [] → are_taken places arguments ≡ true
places-taken name places arguments has is =
    counted-taken name places arguments (length arguments == length places) refl has is

term-there : (typed : Option Typed) → HasTerm typed → IsThere (term_in typed)
term-there None has = has
term-there (Some typed) has = has.0

accepted : (typed : Option Typed) → HasTerm typed → is_refused_in typed ≡ false
accepted None has = absurd has
accepted (Some typed) has = has.1

pub terms-there : (arguments : List Argument) → AllGiven arguments → IsThere (argument_terms arguments)
terms-there [] has = tt
terms-there (argument ∷ arguments) has =
    both-there _ (argument_term argument) (argument_terms arguments) (term-there argument.typed has.0)
    (terms-there arguments has.1)

none-refused : (arguments : List Argument) → AllGiven arguments → any_refused arguments ≡ false
none-refused [] has = refl
none-refused (argument ∷ arguments) has =
    neither (argument_refused argument) (any_refused arguments) (accepted argument.typed has.0)
    (none-refused arguments has.1)

timer-given : (context : contexts.Context) (name : Spot) (found : Option SignalMeaning) (arguments : List Argument) →
    allows_instance context ≡ true → AllGiven arguments → timer_faults name found arguments ≡ [] →
    HasTerm (active_typed context found arguments)
timer-given context name None arguments allowed has is = cc
timer-given context name (Some (signal number sorts)) arguments allowed has is = cc
timer-given context name (Some (timer number sorts has_default)) arguments allowed has is =
    let taken : are_taken sorts arguments ≡ true = places-taken name sorts arguments has is in
    let given : HasTerm (Some (activity number arguments)) = (terms, none-refused arguments has) in
    if-so HasTerm (are_taken sorts arguments && allows_instance context) (Some (activity number arguments)) None
    (both-true (are_taken sorts arguments) (allows_instance context) taken allowed) given
  where
    terms : IsThere (option_map (active_term number) (argument_terms arguments))
    terms = mapped-there (active_term number) (argument_terms arguments) (terms-there arguments has)

-- ---- expressions

module _ (context : contexts.Context) (scope : Scope) (complete : IsComplete scope) where
  mutual
    pub term-given : (expression : Expr) → expression_faults context scope expression ≡ [] →
        HasTerm (typed_in context scope expression)
    term-given (Numeral number) is = (tt, refl)
    term-given (Named name) is =
        name-given context name (value_in scope name.text) (complete.values name.text) is
    term-given (Keyword value word) is =
        if-so HasTerm (allows_word context value) (Some (word_typed value)) None
        (kept (allows_word context value) broken.Sort (mark_word (value_mark value) word) is) (word-plain value)
    term-given (Active word name values) is =
        let at_word = active_faults context word in
        let of_values = values_faults context scope values in
        let of_timer = timer_faults name (signal_in scope name.text) (arguments_in context scope values) in
        let rest : of_values ++ of_timer ≡ [] = empty-right at_word (of_values ++ of_timer) is in
        timer-given context name (signal_in scope name.text) (arguments_in context scope values)
        (kept (allows_instance context) broken.Sort (mark_word mark.Active word)
        (empty-left at_word (of_values ++ of_timer) is))
        (values-given values (empty-left of_values of_timer rest)) (empty-right of_values of_timer rest)
    term-given (Paren word inner) is = term-given inner is
    term-given (Unary operator word operand) is =
        let inside = expression_faults context scope operand in
        let here = unary_faults operator word (typed_in context scope operand) in
        unary-given operator word (typed_in context scope operand) (term-given operand (empty-left inside here is))
        (empty-right inside here is)
    term-given (Chain first rest) is =
        let inside = expression_faults context scope first in
        let behind = links_faults context scope (typed_in context scope first) rest in
        links-given (typed_in context scope first) rest (term-given first (empty-left inside behind is))
        (empty-right inside behind is)

    links-given : (left : Option Typed) (links : Links) → HasTerm left → links_faults context scope left links ≡ [] →
        HasTerm (chain_typed context scope left links)
    links-given left NoLink has is = has
    links-given left (AndLink operator word operand rest) has is =
        let right = typed_in context scope operand in
        let inside = expression_faults context scope operand in
        let here = binary_faults operator word left right in
        let behind = links_faults context scope (binary_typed operator left right) rest in
        let now : inside ++ here ≡ [] = empty-left (inside ++ here) behind is in
        links-given (binary_typed operator left right) rest
        (binary-given operator word left right has (term-given operand (empty-left inside here now))
        (empty-right inside here now))
        (empty-right (inside ++ here) behind is)

    values-given : (values : Exprs) → values_faults context scope values ≡ [] →
        AllGiven (arguments_in context scope values)
    values-given NoExpr is = tt
    values-given (AndExpr value values) is =
        let inside = expression_faults context scope value in
        let behind = values_faults context scope values in
        (term-given value (empty-left inside behind is), values-given values (empty-right inside behind is))

  pub listed-given : (values : List Expr) → flat_map (expression_faults context scope) values ≡ [] →
      AllGiven (map (argument_in context scope) values)
  listed-given [] is = tt
  listed-given (value ∷ values) is =
      let inside = expression_faults context scope value in
      let behind = flat_map (expression_faults context scope) values in
      (term-given value (empty-left inside behind is), listed-given values (empty-right inside behind is))

-- ---- at places

-- the value at its place is the value itself
taken-is : (place : Option Sort) (word : Spot) (typed : Option Typed) → HasTerm typed →
    fault_of_place place word typed ≡ [] → taken_in place typed ≡ typed
taken-is place word typed has is =
    if-so (λ found. found ≡ typed) (is_taken place typed) typed None (one-taken place word typed has is) refl

pub taken-given : (place : Option Sort) (word : Spot) (typed : Option Typed) → HasTerm typed →
    fault_of_place place word typed ≡ [] → HasTerm (taken_in place typed)
taken-given place word typed has is = subst HasTerm (sym (taken-is place word typed has is)) has

module _ (context : contexts.Context) (scope : Scope) (complete : IsComplete scope) where
  pub fitting-given : (place : Option Sort) (expression : Expr) → place_faults context scope place expression ≡ [] →
      HasTerm (taken_in place (typed_in context scope expression))
  fitting-given place expression is =
      let typed = typed_in context scope expression in
      let inside = expression_faults context scope expression in
      let here = fault_of_place place (first_word expression) typed in
      taken-given place (first_word expression) typed
      (term-given context scope complete expression (empty-left inside here is)) (empty-right inside here is)

  pub placed-given : (place : Option Sort) (expression : Expr) → place_faults context scope place expression ≡ [] →
      IsThere (taken_term place (typed_in context scope expression))
  placed-given place expression is =
      term-there (taken_in place (typed_in context scope expression)) (fitting-given place expression is)

  pub list-given : (name : Spot) (places : List (Option Sort)) (values : List Expr) →
      list_faults context scope name places values ≡ [] →
      IsThere (taken_terms places (map (argument_in context scope) values))
  list-given name places values is =
      let arguments = map (argument_in context scope) values in
      let inside = flat_map (expression_faults context scope) values in
      let here = places_faults name places arguments in
      let has : AllGiven arguments = listed-given context scope complete values (empty-left inside here is) in
      if-so IsThere (are_taken places arguments) (argument_terms arguments) None
      (places-taken name places arguments has (empty-right inside here is)) (terms-there arguments has)
