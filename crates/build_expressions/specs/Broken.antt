-- When a rule is broken in an expression, and at which word: said of the parts of the expression, and not of what is
-- noted.
use Rattle.std.specs.Prelude.{◌≡◌, ◌++◌, ℕ, negsuc, Bool, true, false, List, ◌∷◌, Option, None, Some, length, option_and_then}
use Rattle.build_names.specs.FaultLaws.{Each, In}
use Rattle.build_names.specs.Faults.{Diagnostic, diagnostic_at, mark_word}
use Rattle.build_names.specs.declared.faults.fault.Rule.TheVariants.{Unknown, Sort, BadCount}
use Rattle.port_model.specs.declared.values.item.SignalId.{SignalId}
use Rattle.port_model.specs.declared.values.value.Value.{Value}
use Rattle.build_expressions.specs.Constants.{constant_faults, value_of}
use Rattle.build_expressions.specs.Contexts.{allows_instance, allows_word}
use Rattle.build_expressions.specs.OperandSorts.{fits, result_of, unary_result_of}
use Rattle.build_expressions.specs.Misused.{expression_faults, list_faults, place_faults}
use Rattle.build_expressions.specs.Scope.{Scope, SignalMeaning, signal, timer, signal_in, value_in}
use Rattle.build_expressions.specs.Typing.{Typed, typed_in}
use Rattle.build_expressions.specs.Words.{first_word}
use Rattle.build_expressions.specs.declared.context.Context.{Context}
use Rattle.build_expressions.specs.declared.context.Context.TheVariants.{Constant}
use Rattle.build_expressions.specs.declared.operand_sort.OperandSort.{OperandSort}
use Rattle.build_expressions.specs.declared.scope.ValueMeaning.TheVariants as meant
use Rattle.sdl_system.specs.Operation.{number_of}
use Rattle.sdl_system.specs.declared.id.VariableId.{VariableId}
use Rattle.sdl_system.specs.declared.sort.Sort as sorts
use Rattle.sdl_system.specs.declared.sort.Sort.TheVariants as the_sort
use Rattle.sdl_tree.specs.Spells.Expressions.{operator_mark, unary_mark, value_mark}
use Rattle.sdl_tree.specs.Tree.{Expr, Exprs, Links, Named, Keyword, Active, Paren, Unary, Chain, AndExpr, NoLink, AndLink, exprs_in}
use Rattle.sdl_tree.specs.Words.{Spot}
use Rattle.sdl_tree.specs.declared.expressions.KeywordValue.{KeywordValue}
use Rattle.sdl_tree.specs.declared.expressions.Operator.{Operator}
use Rattle.sdl_tree.specs.declared.expressions.UnaryOperator.{UnaryOperator}
use Rattle.sdl_tree.specs.declared.mark.Mark.TheVariants as mark
use Rattle.sdl_tree.specs.declared.name.Spelling.{Spelling}

-- ---- parts

mutual
  -- the part stands in an expression, or is it
  pub data Within : Expr → Expr → Type 0 where
    itself : {part : Expr} → Within part part
    in_parentheses : {part inner : Expr} {word : Spelling} → Within part inner → Within part (Paren word inner)
    behind_operator :
        {part operand : Expr} {operator : UnaryOperator} {word : Spelling} → Within part operand
        → Within part (Unary operator word operand)
    first_operand : {part first : Expr} {rest : Links} → Within part first → Within part (Chain first rest)
    later_operand : {part first : Expr} {rest : Links} → InLinks part rest → Within part (Chain first rest)
    value_of_timer :
        {part : Expr} {word : Spelling} {name : Spot} {values : Exprs} → InValues part values
        → Within part (Active word name values)

  -- it stands in an operand behind an operator, or is it
  pub data InLinks : Expr → Links → Type 0 where
    this_operand :
        {part operand : Expr} {operator : Operator} {word : Spelling} {rest : Links} → Within part operand
        → InLinks part (AndLink operator word operand rest)
    behind_operand :
        {part operand : Expr} {operator : Operator} {word : Spelling} {rest : Links} → InLinks part rest
        → InLinks part (AndLink operator word operand rest)

  -- it stands in one of the values, or is it
  pub data InValues : Expr → Exprs → Type 0 where
    this_value : {part value : Expr} {rest : Exprs} → Within part value → InValues part (AndExpr value rest)
    behind_value : {part value : Expr} {rest : Exprs} → InValues part rest → InValues part (AndExpr value rest)

-- links with others behind them
abbrev pub append_links : Links → Links → Links
append_links NoLink after = after
append_links (AndLink operator word operand rest) after = AndLink operator word operand (append_links rest after)

-- an operator of a chain, with its operands: on its left stands the chain before it
pub record IsOperation (whole left : Expr) (operator : Operator) (word : Spelling) (right : Expr) : Type 0 where
  pub first : Expr
  pub before : Links
  pub after : Links
  pub within : Within (Chain first (append_links before (AndLink operator word right after))) whole
  pub left_is : left ≡ Chain first before

-- ---- values at places of a sort

-- the value has a kind that doesn't fit the sort
pub record IsMisfit (context : Context) (scope : Scope) (sort : sorts.Sort) (value : Expr) : Type 0 where
  pub typed : Typed
  pub typed_is : typed_in context scope value ≡ Some typed
  pub misfit : fits typed.kind sort ≡ false

-- a value of the list has a kind that doesn't fit the place of its number
pub record HasMisfit (context : Context) (scope : Scope) (places : List (Option sorts.Sort)) (values : List Expr)
    (value : Expr) : Type 0 where
  pub before : List Expr
  pub after : List Expr
  pub values_are : values ≡ before ++ value ∷ after
  pub places_before : List (Option sorts.Sort)
  pub sort : sorts.Sort
  pub places_after : List (Option sorts.Sort)
  pub places_are : places ≡ places_before ++ Some sort ∷ places_after
  pub same_place : length before ≡ length places_before
  pub misfit : IsMisfit context scope sort value

-- values behind a name that don't fit the places of these sorts
pub data BreaksPlaces (context : Context) (scope : Scope) (name : Spot) (places : List (Option sorts.Sort))
    (values : List Expr) : Diagnostic → Type 0 where
  -- they are fewer or more
  count : (length values ≡ length places → ⊥) → BreaksPlaces context scope name places values (diagnostic_at Sort name)
  -- one doesn't fit its place
  misfit :
      (value : Expr) → length values ≡ length places → HasMisfit context scope places values value
      → BreaksPlaces context scope name places values (diagnostic_at Sort (first_word value))

-- ---- expressions

-- what a name stands for that is no timer's
pub data IsNoTimer : Option SignalMeaning → Type 0 where
  nothing : IsNoTimer None
  a_signal : (number : SignalId) (places : List (Option sorts.Sort)) → IsNoTimer (Some (signal number places))

-- the name stands for a timer that takes values at these places
pub record TimerMeaning (scope : Scope) (name : Spot) : Type 0 where
  pub number : SignalId
  pub places : List (Option sorts.Sort)
  pub has_default : Bool
  pub meant : signal_in scope name.text ≡ Some (timer number places has_default)

-- a rule is broken in the expression
pub data IsBroken (context : Context) (scope : Scope) (whole : Expr) : Diagnostic → Type 0 where
  -- a name stands for nothing
  unknown :
      (name : Spot) → Within (Named name) whole → value_in scope name.text ≡ None
      → IsBroken context scope whole (diagnostic_at Unknown name)
  -- a variable or a formal parameter stands in a constant
  variable :
      (name : Spot) (number : VariableId) (sort : Option sorts.Sort) → Within (Named name) whole
      → value_in scope name.text ≡ Some (meant.Variable number sort) → allows_instance context ≡ false
      → IsBroken context scope whole (diagnostic_at Sort name)
  -- a keyword stands where it may not
  keyword :
      (value : KeywordValue) (word : Spelling) → Within (Keyword value word) whole
      → allows_word context value ≡ false → IsBroken context scope whole
      (diagnostic_at Sort (mark_word (value_mark value) word))
  -- a timer is asked for in a constant
  active :
      (word : Spelling) (name : Spot) (values : Exprs) → Within (Active word name values) whole
      → allows_instance context ≡ false → IsBroken context scope whole (diagnostic_at Sort (mark_word mark.Active word))
  -- a name behind `active` is no timer's
  no_timer :
      (word : Spelling) (name : Spot) (values : Exprs) → Within (Active word name values) whole
      → IsNoTimer (signal_in scope name.text) → IsBroken context scope whole (diagnostic_at Unknown name)
  -- the values behind a timer's name don't fit it
  timer_values :
      (word : Spelling) (name : Spot) (values : Exprs) → Within (Active word name values) whole
      → (meaning : TimerMeaning scope name) (fault : Diagnostic)
      → BreaksPlaces context scope name meaning.places (exprs_in values) fault → IsBroken context scope whole fault
  -- an operator before an operand is none for its kind
  unary :
      (operator : UnaryOperator) (word : Spelling) (operand : Expr) → Within (Unary operator word operand) whole
      → (typed : Typed) → typed_in context scope operand ≡ Some typed → unary_result_of operator typed.kind ≡ None
      → IsBroken context scope whole (diagnostic_at Sort (mark_word (unary_mark operator) word))
  -- an operator between operands is none for their kinds
  binary :
      (left : Expr) (operator : Operator) (word : Spelling) (right : Expr)
      → IsOperation whole left operator word right → (first second : Typed)
      → typed_in context scope left ≡ Some first → typed_in context scope right ≡ Some second
      → result_of operator first.kind second.kind ≡ None
      → IsBroken context scope whole (diagnostic_at Sort (mark_word (operator_mark operator) word))

-- a rule is broken in an expression, or it doesn't fit the place
pub data IsBrokenAt (context : Context) (scope : Scope) (place : Option sorts.Sort) (whole : Expr) : Diagnostic →
    Type 0 where
  inside : (fault : Diagnostic) → IsBroken context scope whole fault → IsBrokenAt context scope place whole fault
  misfit :
      (sort : sorts.Sort) → place ≡ Some sort → IsMisfit context scope sort whole
      → IsBrokenAt context scope place whole (diagnostic_at Sort (first_word whole))

-- a rule is broken in a value of the list, or they don't fit the places
pub data IsBrokenIn (context : Context) (scope : Scope) (name : Spot) (places : List (Option sorts.Sort))
    (values : List Expr) : Diagnostic → Type 0 where
  inside :
      (fault : Diagnostic) (value : Expr) → In value values → IsBroken context scope value fault
      → IsBrokenIn context scope name places values fault
  at_places :
      (fault : Diagnostic) → BreaksPlaces context scope name places values fault
      → IsBrokenIn context scope name places values fault

-- ---- constants

-- a value of the kind may stand at the place; where the place's sort is unknown, each may
pub data TakesKind : Option sorts.Sort → OperandSort → Type 0 where
  any : (kind : OperandSort) → TakesKind None kind
  fitting : (sort : sorts.Sort) (kind : OperandSort) → fits kind sort ≡ true → TakesKind (Some sort) kind

-- there is no value, or a negative one for a Natural
pub data LacksValue : Option sorts.Sort → Option Value → Type 0 where
  no_value : (place : Option sorts.Sort) → LacksValue place None
  negative :
      (value : Value) (less_one : ℕ) → number_of value ≡ negsuc less_one →
      LacksValue (Some the_sort.Natural) (Some value)

-- the expression may stand at the place and rests on no refused synonym, but has no value, or a negative one for a
-- Natural
pub record IsUncounted (scope : Scope) (place : Option sorts.Sort) (whole : Expr) : Type 0 where
  pub typed : Typed
  pub typed_is : typed_in Constant scope whole ≡ Some typed
  pub taken : TakesKind place typed.kind
  pub accepted : typed.is_refused ≡ false
  pub lacks : LacksValue place (option_and_then value_of typed.term)

-- a rule is broken in a constant expression at a place
pub data IsBrokenConstant (scope : Scope) (place : Option sorts.Sort) (whole : Expr) : Diagnostic → Type 0 where
  at_place : (fault : Diagnostic) → IsBrokenAt Constant scope place whole fault →
      IsBrokenConstant scope place whole fault
  count : IsUncounted scope place whole → IsBrokenConstant scope place whole (diagnostic_at BadCount (first_word whole))

-- ---- laws

-- Each fault of the lists is broken.
abbrev pub ListedBroken : Type 0
ListedBroken = (context : Context) (scope : Scope) (whole : Expr) →
    Each (IsBroken context scope whole) (expression_faults context scope whole)

abbrev pub ListedBrokenAt : Type 0
ListedBrokenAt = (context : Context) (scope : Scope) (place : Option sorts.Sort) (whole : Expr) →
    Each (IsBrokenAt context scope place whole) (place_faults context scope place whole)

abbrev pub ListedBrokenIn : Type 0
ListedBrokenIn = (context : Context) (scope : Scope) (name : Spot) (places : List (Option sorts.Sort))
    (values : List Expr) →
    Each (IsBrokenIn context scope name places values) (list_faults context scope name places values)

-- Each that is broken is in the lists.
abbrev pub BrokenListed : Type 0
BrokenListed = (context : Context) (scope : Scope) (whole : Expr) (fault : Diagnostic) →
    IsBroken context scope whole fault → In fault (expression_faults context scope whole)

abbrev pub BrokenListedAt : Type 0
BrokenListedAt = (context : Context) (scope : Scope) (place : Option sorts.Sort) (whole : Expr) (fault : Diagnostic) →
    IsBrokenAt context scope place whole fault → In fault (place_faults context scope place whole)

abbrev pub BrokenListedIn : Type 0
BrokenListedIn = (context : Context) (scope : Scope) (name : Spot) (places : List (Option sorts.Sort))
    (values : List Expr)
    (fault : Diagnostic) → IsBrokenIn context scope name places values fault
    → In fault (list_faults context scope name places values)

abbrev pub ListedBrokenConstant : Type 0
ListedBrokenConstant = (scope : Scope) (place : Option sorts.Sort) (whole : Expr) →
    Each (IsBrokenConstant scope place whole) (constant_faults scope place whole)

abbrev pub BrokenListedConstant : Type 0
BrokenListedConstant = (scope : Scope) (place : Option sorts.Sort) (whole : Expr) (fault : Diagnostic) →
    IsBrokenConstant scope place whole fault → In fault (constant_faults scope place whole)
