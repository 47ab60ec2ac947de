-- The kind and the term of an expression (Z.104: expressions). An expression in which a rule is broken has neither, so
-- that nothing is told of what stands round it.
use Rattle.std.specs.Prelude.{◌||◌, ◌&&◌, Bool, true, false, List, [], ◌∷◌, Option, None, Some, map, option_map, if◌then◌else◌}
use Rattle.std.specs.List.{list_any}
use Rattle.port_model.specs.declared.values.item.SignalId.{SignalId}
use Rattle.port_model.specs.declared.values.pid.Pid.TheVariants.{Null}
use Rattle.port_model.specs.declared.values.value.Value.TheVariants as value
use Rattle.build_expressions.specs.Contexts.{allows_instance, allows_word}
use Rattle.build_expressions.specs.OperandSorts.{fits, kind_of, result_of, unary_result_of}
use Rattle.build_expressions.specs.Partial.{all_some, both}
use Rattle.build_expressions.specs.Scope.{Scope, SignalMeaning, signal, timer, signal_in, value_in}
use Rattle.build_expressions.specs.Words.{first_word}
use Rattle.build_expressions.specs.declared.context.Context.{Context}
use Rattle.build_expressions.specs.declared.operand_sort.OperandSort.{OperandSort}
use Rattle.build_expressions.specs.declared.operand_sort.OperandSort.TheVariants.{Free, Time, Boolean, Pid}
use Rattle.build_expressions.specs.declared.operator.TypedOperation.{TypedOperation}
use Rattle.build_expressions.specs.declared.operator.TypedUnaryOperation.{TypedUnaryOperation}
use Rattle.build_expressions.specs.declared.scope.Constant.{Constant}
use Rattle.build_expressions.specs.declared.scope.Constant.TheVariants as constants
use Rattle.build_expressions.specs.declared.scope.ValueMeaning.{ValueMeaning}
use Rattle.build_expressions.specs.declared.scope.ValueMeaning.TheVariants as meant
use Rattle.sdl_system.specs.Term.{Term, constant, variable, now, pid, active, unary, binary, terms_of}
use Rattle.sdl_system.specs.declared.expression.PidExpression.{PidExpression}
use Rattle.sdl_system.specs.declared.expression.PidExpression.TheVariants as who
use Rattle.sdl_system.specs.declared.id.VariableId.{VariableId}
use Rattle.sdl_system.specs.declared.sort.Sort.{Sort}
use Rattle.sdl_tree.specs.Tree.{Expr, Exprs, Links, Numeral, Named, Keyword, Active, Paren, Unary, Chain, NoExpr, AndExpr, NoLink, AndLink}
use Rattle.sdl_tree.specs.Words.{Spot}
use Rattle.sdl_tree.specs.declared.expressions.KeywordValue.{KeywordValue}
use Rattle.sdl_tree.specs.declared.expressions.KeywordValue.TheVariants as keyword
use Rattle.sdl_tree.specs.declared.expressions.Operator.{Operator}
use Rattle.sdl_tree.specs.declared.expressions.UnaryOperator.{UnaryOperator}

pub record Typed : Type 0 where
  pub kind : OperandSort
  -- none where a synonym inside has no value or is refused
  pub term : Option Term
  -- whether a synonym inside is refused
  pub is_refused : Bool

-- an expression that names no synonym
abbrev pub plain : OperandSort → Term → Typed
plain kind term = record { kind = kind; term = Some term; is_refused = false }

-- ---- names and literals

abbrev pub constant_term : Constant → Option Term
constant_term (constants.Value v) = Some (constant v)
constant_term constants.NoValue = None
constant_term constants.Refused = None

abbrev pub is_refused : Constant → Bool
is_refused (constants.Value v) = false
is_refused constants.NoValue = false
is_refused constants.Refused = true

abbrev pub of_variable : VariableId → Sort → Typed
of_variable number sort = plain (kind_of sort) (variable number)

abbrev pub of_synonym : Constant → Sort → Typed
of_synonym value sort = record { kind = kind_of sort; term = constant_term value; is_refused = is_refused value }

-- what a name comes to: nothing where it has no meaning, or its sort is none
abbrev pub name_typed : Context → Option ValueMeaning → Option Typed
name_typed context None = None
name_typed context (Some (meant.Variable number sort)) =
    if allows_instance context then option_map (of_variable number) sort else None
name_typed context (Some (meant.Synonym sort value)) = option_map (of_synonym value) sort

abbrev pub of_process : PidExpression → Typed
of_process who = plain Pid (pid who)

abbrev pub word_typed : KeywordValue → Typed
word_typed keyword.True = plain Boolean (constant (value.Bool true))
word_typed keyword.False = plain Boolean (constant (value.Bool false))
word_typed keyword.Null = plain Pid (constant (value.Pid Null))
word_typed keyword.Now = plain Time now
word_typed keyword.SelfPid = of_process who.SelfPid
word_typed keyword.Parent = of_process who.Parent
word_typed keyword.Offspring = of_process who.Offspring
word_typed keyword.Sender = of_process who.Sender

-- ---- operators

abbrev pub with_operation : Typed → TypedUnaryOperation → Typed
with_operation operand result = record {
  kind = result.kind;
  term = option_map (unary result.operation) operand.term;
  is_refused = operand.is_refused;
}

abbrev pub unary_typed : UnaryOperator → Option Typed → Option Typed
unary_typed operator None = None
unary_typed operator (Some operand) = option_map (with_operation operand) (unary_result_of operator operand.kind)

abbrev pub joined_by : Typed → Typed → TypedOperation → Typed
joined_by left right result = record {
  kind = result.kind;
  term = both (binary result.operation) left.term right.term;
  is_refused = left.is_refused || right.is_refused;
}

abbrev pub operated : Operator → Typed → Typed → Option Typed
operated operator left right = option_map (joined_by left right) (result_of operator left.kind right.kind)

abbrev pub binary_typed : Operator → Option Typed → Option Typed → Option Typed
binary_typed operator None right = None
binary_typed operator (Some left) None = None
binary_typed operator (Some left) (Some right) = operated operator left right

-- ---- values at places of a sort

-- a value with the word that it begins with
pub record Argument : Type 0 where
  pub word : Spot
  pub typed : Option Typed

-- whether it is a value that fits the place; where the place's sort is unknown, each does
abbrev pub is_taken : Option Sort → Option Typed → Bool
is_taken place None = false
is_taken None (Some typed) = true
is_taken (Some sort) (Some typed) = fits typed.kind sort

-- whether there are as many values as places, and each fits
abbrev pub are_taken : List (Option Sort) → List Argument → Bool
are_taken [] [] = true
are_taken [] (argument ∷ arguments) = false
are_taken (place ∷ places) [] = false
are_taken (place ∷ places) (argument ∷ arguments) = is_taken place argument.typed && are_taken places arguments

abbrev pub term_in : Option Typed → Option Term
term_in None = None
term_in (Some typed) = typed.term

abbrev pub argument_term : Argument → Option Term
argument_term argument = term_in argument.typed

-- the terms of all values, where each has one
abbrev pub argument_terms : List Argument → Option (List Term)
argument_terms arguments = all_some (map argument_term arguments)

abbrev pub is_refused_in : Option Typed → Bool
is_refused_in None = false
is_refused_in (Some typed) = typed.is_refused

abbrev pub argument_refused : Argument → Bool
argument_refused argument = is_refused_in argument.typed

abbrev pub any_refused : List Argument → Bool
any_refused arguments = list_any argument_refused arguments

abbrev pub active_term : SignalId → List Term → Term
active_term number terms = active number (terms_of terms)

-- whether the timer is active with these values
abbrev pub activity : SignalId → List Argument → Typed
activity number arguments = record {
  kind = Boolean;
  term = option_map (active_term number) (argument_terms arguments);
  is_refused = any_refused arguments;
}

abbrev pub active_typed : Context → Option SignalMeaning → List Argument → Option Typed
active_typed context None arguments = None
active_typed context (Some (signal number sorts)) arguments = None
active_typed context (Some (timer number sorts has_default)) arguments =
    if are_taken sorts arguments && allows_instance context then Some (activity number arguments) else None

-- ---- expressions

abbrev mutual
  pub typed_in : Context → Scope → Expr → Option Typed
  typed_in context scope (Numeral number) = Some (plain Free (constant (value.Int number.value)))
  typed_in context scope (Named name) = name_typed context (value_in scope name.text)
  typed_in context scope (Keyword value word) = if allows_word context value then Some (word_typed value) else None
  typed_in context scope (Active word name values) =
      active_typed context (signal_in scope name.text) (arguments_in context scope values)
  typed_in context scope (Paren word inner) = typed_in context scope inner
  typed_in context scope (Unary operator word operand) = unary_typed operator (typed_in context scope operand)
  typed_in context scope (Chain first rest) = chain_typed context scope (typed_in context scope first) rest

  -- operators of one level group to the left
  pub chain_typed : Context → Scope → Option Typed → Links → Option Typed
  chain_typed context scope left NoLink = left
  chain_typed context scope left (AndLink operator word operand rest) =
      chain_typed context scope (binary_typed operator left (typed_in context scope operand)) rest

  pub arguments_in : Context → Scope → Exprs → List Argument
  arguments_in context scope NoExpr = []
  arguments_in context scope (AndExpr first rest) =
      record { word = first_word first; typed = typed_in context scope first } ∷ arguments_in context scope rest

abbrev pub argument_in : Context → Scope → Expr → Argument
argument_in context scope value = record { word = first_word value; typed = typed_in context scope value }

-- the value where it fits the place
abbrev pub taken_in : Option Sort → Option Typed → Option Typed
taken_in place typed = if is_taken place typed then typed else None

abbrev pub taken_term : Option Sort → Option Typed → Option Term
taken_term place typed = term_in (taken_in place typed)

-- the terms of values where all fit their places
abbrev pub taken_terms : List (Option Sort) → List Argument → Option (List Term)
taken_terms places arguments = if are_taken places arguments then argument_terms arguments else None
