-- The faults of an expression: the rules that it breaks, each at the word where it does (Z.104: expressions).
use Rattle.std.specs.Prelude.{◌++◌, ◌==◌, not, Bool, false, List, [], ◌∷◌, Option, None, Some, flat_map, is_none, length, map, if◌then◌else◌}
use Rattle.build_names.specs.Faults.{Diagnostic, diagnostic_at, fault_if, mark_word}
use Rattle.build_names.specs.declared.faults.fault.Rule.TheVariants.{Unknown, Sort}
use Rattle.build_expressions.specs.Contexts.{allows_instance, allows_word}
use Rattle.build_expressions.specs.OperandSorts.{fits, result_of, unary_result_of}
use Rattle.build_expressions.specs.Scope.{Scope, SignalMeaning, signal, timer, signal_in, value_in}
use Rattle.build_expressions.specs.Typing.{Argument, Typed, argument_in, arguments_in, binary_typed, typed_in}
use Rattle.build_expressions.specs.Words.{first_word}
use Rattle.build_expressions.specs.declared.context.Context.{Context}
use Rattle.build_expressions.specs.declared.scope.ValueMeaning.{ValueMeaning}
use Rattle.build_expressions.specs.declared.scope.ValueMeaning.TheVariants as meant
use Rattle.sdl_system.specs.declared.sort.Sort as sorts
use Rattle.sdl_tree.specs.Spells.Expressions.{operator_mark, unary_mark, value_mark}
use Rattle.sdl_tree.specs.Tree.{Expr, Exprs, Links, Numeral, Named, Keyword, Active, Paren, Unary, Chain, NoExpr, AndExpr, NoLink, AndLink}
use Rattle.sdl_tree.specs.Words.{Spot}
use Rattle.sdl_tree.specs.declared.expressions.KeywordValue.{KeywordValue}
use Rattle.sdl_tree.specs.declared.expressions.Operator.{Operator}
use Rattle.sdl_tree.specs.declared.expressions.UnaryOperator.{UnaryOperator}
use Rattle.sdl_tree.specs.declared.mark.Mark.TheVariants as mark
use Rattle.sdl_tree.specs.declared.name.Spelling.{Spelling}

-- a name without a meaning, or a variable or a formal parameter where none may stand
abbrev pub name_faults : Context → Spot → Option ValueMeaning → List Diagnostic
name_faults context name None = diagnostic_at Unknown name ∷ []
name_faults context name (Some (meant.Variable number sort)) = fault_if (not (allows_instance context)) Sort name
name_faults context name (Some (meant.Synonym sort value)) = []

-- a keyword where it may not stand
abbrev pub word_faults : Context → KeywordValue → Spelling → List Diagnostic
word_faults context value word = fault_if (not (allows_word context value)) Sort (mark_word (value_mark value) word)

-- an operator that is none for the kind of its operand, where the operand has one
abbrev pub unary_faults : UnaryOperator → Spelling → Option Typed → List Diagnostic
unary_faults operator word None = []
unary_faults operator word (Some operand) =
    fault_if (is_none (unary_result_of operator operand.kind)) Sort (mark_word (unary_mark operator) word)

-- an operator that is none for the kinds of its operands, where both have one
abbrev pub binary_faults : Operator → Spelling → Option Typed → Option Typed → List Diagnostic
binary_faults operator word None right = []
binary_faults operator word (Some left) None = []
binary_faults operator word (Some left) (Some right) =
    fault_if (is_none (result_of operator left.kind right.kind)) Sort (mark_word (operator_mark operator) word)

-- ---- values at places of a sort

-- whether it is a value that doesn't fit the place; where the place's sort is unknown, none is
abbrev pub is_misplaced : Option sorts.Sort → Option Typed → Bool
is_misplaced place None = false
is_misplaced None (Some typed) = false
is_misplaced (Some sort) (Some typed) = not (fits typed.kind sort)

-- a value that doesn't fit its place
abbrev pub fault_of_place : Option sorts.Sort → Spot → Option Typed → List Diagnostic
fault_of_place place word typed = fault_if (is_misplaced place typed) Sort word

-- the values that don't fit their places
abbrev pub misplaced : List (Option sorts.Sort) → List Argument → List Diagnostic
misplaced [] arguments = []
misplaced (place ∷ places) [] = []
misplaced (place ∷ places) (argument ∷ arguments) =
    fault_of_place place argument.word argument.typed ++ misplaced places arguments

-- values that are fewer or more than the places, or don't fit them
abbrev pub places_faults : Spot → List (Option sorts.Sort) → List Argument → List Diagnostic
places_faults name places arguments = if length arguments == length places
    then misplaced places arguments
    else diagnostic_at Sort name ∷ []

-- a name that is no timer's, or values that don't fit the timer's
abbrev pub timer_faults : Spot → Option SignalMeaning → List Argument → List Diagnostic
timer_faults name None arguments = diagnostic_at Unknown name ∷ []
timer_faults name (Some (signal number sorts)) arguments = diagnostic_at Unknown name ∷ []
timer_faults name (Some (timer number sorts has_default)) arguments = places_faults name sorts arguments

-- the word `active` where it may not stand
abbrev pub active_faults : Context → Spelling → List Diagnostic
active_faults context word = fault_if (not (allows_instance context)) Sort (mark_word mark.Active word)

-- ---- expressions

abbrev mutual
  pub expression_faults : Context → Scope → Expr → List Diagnostic
  expression_faults context scope (Numeral number) = []
  expression_faults context scope (Named name) = name_faults context name (value_in scope name.text)
  expression_faults context scope (Keyword value word) = word_faults context value word
  expression_faults context scope (Active word name values) =
      active_faults context word ++ (values_faults context scope values
      ++ timer_faults name (signal_in scope name.text) (arguments_in context scope values))
  expression_faults context scope (Paren word inner) = expression_faults context scope inner
  expression_faults context scope (Unary operator word operand) =
      expression_faults context scope operand ++ unary_faults operator word (typed_in context scope operand)
  expression_faults context scope (Chain first rest) =
      expression_faults context scope first ++ links_faults context scope (typed_in context scope first) rest

  -- of the links of a chain behind what stands on their left
  pub links_faults : Context → Scope → Option Typed → Links → List Diagnostic
  links_faults context scope left NoLink = []
  links_faults context scope left (AndLink operator word operand rest) =
      (expression_faults context scope operand
      ++ binary_faults operator word left (typed_in context scope operand))
      ++ links_faults context scope (binary_typed operator left (typed_in context scope operand)) rest

  pub values_faults : Context → Scope → Exprs → List Diagnostic
  values_faults context scope NoExpr = []
  values_faults context scope (AndExpr first rest) =
      expression_faults context scope first ++ values_faults context scope rest

-- of an expression at a place of a sort
abbrev pub place_faults : Context → Scope → Option sorts.Sort → Expr → List Diagnostic
place_faults context scope place expression =
    expression_faults context scope expression
    ++ fault_of_place place (first_word expression) (typed_in context scope expression)

-- of the values behind a name, at places of these sorts
abbrev pub list_faults : Context → Scope → Spot → List (Option sorts.Sort) → List Expr → List Diagnostic
list_faults context scope name places values =
    flat_map (expression_faults context scope) values
    ++ places_faults name places (map (argument_in context scope) values)
